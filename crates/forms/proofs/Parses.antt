-- What each expected item stands for: a tree, and how it is written.
use Rattle.std.proofs.Common.{ℕ, ◌⊎◌, List, [], ◌∷◌, ◌++◌, codes, inl, inr}
use Rattle.words.specs.declared.Word.TheVariants as words
use Rattle.grammar.specs.declared.items.Item.{Item}
use Rattle.grammar.specs.declared.items.Item.TheVariants as items
use Rattle.grammar.specs.Marks.{Mark, mark, open_list, close_list, word, symbol, keyword, numeral}
use Rattle.forms.specs.Syntax.{Name, Number, SortName, sort_symbol, Term, term_symbol, Terms, no_terms, Assumption, Expressions, no_more, Operands, check_sat, word_of_form, symbol_mark, numeral_mark, spell_sort, spell_sorts, spell_term, spell_terms, spell_assumptions, spell_expressions, spell_operands}

-- A command behind its parenthesis: one of the thirteen, or a list headed by another symbol.
abbrev pub Body : Type 0
Body = (ℕ × Operands × ℕ) ⊎ (Name × Expressions × ℕ)

-- An item that goes up to a closing parenthesis has its place too.
abbrev pub Parse : Item → Type 0
Parse items.OpenList = ℕ
Parse items.CloseList = ℕ
Parse items.Command = Body
Parse items.AName = Name
Parse items.AKeyword = Name
Parse items.ANumeral = Number
Parse items.AZero = ℕ
Parse items.ASort = SortName
Parse items.Sorts = List SortName × ℕ
Parse items.ATerm = Term
Parse items.Terms = Terms × ℕ
Parse items.Assumptions = List Assumption × ℕ
Parse items.AnUnderscore = ℕ
Parse items.ABitVec = ℕ
Parse items.ANot = ℕ
Parse items.Anything = Expressions × ℕ

abbrev pub write_body : Body → List Mark → List Mark
write_body (inl (w, x, c)) ms = mark (word (word_of_form x)) w ∷ (spell_operands x ++ (mark close_list c ∷ ms))
write_body (inr (n, es, c)) ms = symbol_mark n ∷ (spell_expressions es ++ (mark close_list c ∷ ms))

-- The marks of a tree, and then others.
abbrev pub write : (i : Item) → Parse i → List Mark → List Mark
write items.OpenList p ms = mark open_list p ∷ ms
write items.CloseList p ms = mark close_list p ∷ ms
write items.Command b ms = write_body b ms
write items.AName n ms = symbol_mark n ∷ ms
write items.AKeyword k ms = mark (keyword k.bytes) k.at ∷ ms
write items.ANumeral n ms = numeral_mark n ∷ ms
write items.AZero p ms = mark (numeral 0) p ∷ ms
write items.ASort s ms = spell_sort s ++ ms
write items.Sorts x ms = spell_sorts x.0 ++ (mark close_list x.1 ∷ ms)
write items.ATerm t ms = spell_term t ++ ms
write items.Terms x ms = spell_terms x.0 ++ (mark close_list x.1 ∷ ms)
write items.Assumptions x ms = spell_assumptions x.0 ++ (mark close_list x.1 ∷ ms)
write items.AnUnderscore p ms = mark (word words.Underscore) p ∷ ms
write items.ABitVec p ms = mark (symbol (codes "BitVec")) p ∷ ms
write items.ANot p ms = mark (symbol (codes "not")) p ∷ ms
write items.Anything x ms = spell_expressions x.0 ++ (mark close_list x.1 ∷ ms)

-- A tree for each expected item.
abbrev pub Parses : List Item → Type 0
Parses [] = Unit {0}
Parses (i ∷ stack) = Parse i × Parses stack

abbrev pub writes : (stack : List Item) → Parses stack → List Mark
writes [] x = []
writes (i ∷ stack) x = write i x.0 (writes stack x.1)

-- Whatever is expected, some tree is it.
some_name : Name
some_name = record { bytes = []; at = 0 }

some : (i : Item) → Parse i
some items.OpenList = 0
some items.CloseList = 0
some items.Command = inl (0, check_sat, 0)
some items.AName = some_name
some items.AKeyword = some_name
some items.ANumeral = record { value = 0; at = 0 }
some items.AZero = 0
some items.ASort = sort_symbol some_name
some items.Sorts = ([], 0)
some items.ATerm = term_symbol some_name
some items.Terms = (no_terms, 0)
some items.Assumptions = ([], 0)
some items.AnUnderscore = 0
some items.ABitVec = 0
some items.ANot = 0
some items.Anything = (no_more, 0)

pub any : (stack : List Item) → Parses stack
any [] = tt
any (i ∷ stack) = (some i, any stack)

-- The command that is told from the second and third tokens is the one that the tree has.
use Rattle.std.proofs.Common.{◌≡◌, ℕ, zero, suc, List, [], ◌∷◌, get_or, Some, None, Option, sym, refl, ap, ◌∙◌, subst, ap₂}
use Rattle.words.specs.declared.Word.{Word}
use Rattle.words.specs.Words.{word_of}
use Rattle.tokens.specs.declared.Kind.{Kind}
use Rattle.tokens.specs.declared.Kind.TheVariants.{Opening, Closing, Name, Keyword, Numeral, Literal}
use Rattle.tokens.specs.declared.Token.{Token}
use Rattle.tokens.specs.Lexing.{bytes_of}
use Rattle.grammar.specs.Marks.{Mark, mark, Lexeme, open_list, close_list, word, symbol, keyword, numeral, literal, symbol_or, lexeme_of, mark_of, marks, sign}
use Rattle.forms.specs.declared.Command.TheVariants.{Push, Pop}
use Rattle.forms.specs.Syntax.{Operands, set_logic, declare_sort, declare_fun, declare_const, assert, push, pop, check_sat, check_sat_assuming, get_value, get_info, reset, exit, Tree, command, other, word_of_form, spell}
use Rattle.forms.specs.Forms.{number_of, word_command, headed, no_token, command_of}
use Rattle.forms.specs.Laws.{no_mark, Spells, PointsAt, Points}
use Rattle.forms.proofs.Accepts.{symbol_alike}

mark-at : (text : List ℕ) (ts : List Token) (i : ℕ) → get_or (marks text ts) i no_mark ≡ mark_of text (get_or ts i no_token)
mark-at text [] i = refl
mark-at text (t ∷ ts) zero = refl
mark-at text (t ∷ ts) (suc i) = mark-at text ts i

-- the parts of what a token says, or a given value
abbrev symbol_of : List ℕ → Lexeme → List ℕ
symbol_of d open_list = d
symbol_of d close_list = d
symbol_of d (word w) = d
symbol_of d (symbol bs) = bs
symbol_of d (keyword bs) = d
symbol_of d (numeral n) = d
symbol_of d (literal w v) = d

abbrev keyword_of : List ℕ → Lexeme → List ℕ
keyword_of d open_list = d
keyword_of d close_list = d
keyword_of d (word w) = d
keyword_of d (symbol bs) = d
keyword_of d (keyword bs) = bs
keyword_of d (numeral n) = d
keyword_of d (literal w v) = d

abbrev numeral_of : Lexeme → ℕ
numeral_of open_list = 0
numeral_of close_list = 0
numeral_of (word w) = 0
numeral_of (symbol bs) = 0
numeral_of (keyword bs) = 0
numeral_of (numeral n) = n
numeral_of (literal w v) = 0

name-symbol : (o : Option Word) (bs : List ℕ) → symbol_of bs (symbol_or o bs) ≡ bs
name-symbol None bs = refl
name-symbol (Some w) bs = refl

name-keyword : (o : Option Word) (bs : List ℕ) → keyword_of bs (symbol_or o bs) ≡ bs
name-keyword None bs = refl
name-keyword (Some w) bs = refl

name-numeral : (o : Option Word) (bs : List ℕ) → numeral_of (symbol_or o bs) ≡ 0
name-numeral None bs = refl
name-numeral (Some w) bs = refl

symbol-bytes : (k : Kind) (bs : List ℕ) → symbol_of bs (lexeme_of k bs) ≡ bs
symbol-bytes Opening bs = refl
symbol-bytes Closing bs = refl
symbol-bytes Name bs = name-symbol (word_of bs) bs
symbol-bytes Keyword bs = refl
symbol-bytes (Numeral n) bs = refl
symbol-bytes (Literal w v) bs = refl

keyword-bytes : (k : Kind) (bs : List ℕ) → keyword_of bs (lexeme_of k bs) ≡ bs
keyword-bytes Opening bs = refl
keyword-bytes Closing bs = refl
keyword-bytes Name bs = name-keyword (word_of bs) bs
keyword-bytes Keyword bs = refl
keyword-bytes (Numeral n) bs = refl
keyword-bytes (Literal w v) bs = refl

numeral-value : (k : Kind) (bs : List ℕ) → numeral_of (lexeme_of k bs) ≡ number_of k
numeral-value Opening bs = refl
numeral-value Closing bs = refl
numeral-value Name bs = name-numeral (word_of bs) bs
numeral-value Keyword bs = refl
numeral-value (Numeral n) bs = refl
numeral-value (Literal w v) bs = refl

module _ (text : List ℕ) (t : Token) (m : Mark) (e : m ≡ mark_of text t) where
  spells-symbol : (n : Rattle.forms.specs.Syntax.Name) → mark (symbol n.bytes) n.at ≡ m → Spells text n t
  spells-symbol n f =
      (ap (λ x. symbol_of (bytes_of text t) x.says) (f ∙ e) ∙ symbol-bytes t.kind (bytes_of text t), ap (λ x. x.at) (f ∙ e))

  spells-keyword : (n : Rattle.forms.specs.Syntax.Name) → mark (keyword n.bytes) n.at ≡ m → Spells text n t
  spells-keyword n f =
      (ap (λ x. keyword_of (bytes_of text t) x.says) (f ∙ e) ∙ keyword-bytes t.kind (bytes_of text t), ap (λ x. x.at) (f ∙ e))

  value_of : (v p : ℕ) → mark (numeral v) p ≡ m → number_of t.kind ≡ v
  value_of v p f = sym (ap (λ x. numeral_of x.says) (f ∙ e) ∙ numeral-value t.kind (bytes_of text t))

  place_of : (v p : ℕ) → mark (numeral v) p ≡ m → t.from ≡ p
  place_of v p f = sym (ap (λ x. x.at) (f ∙ e))

-- the command of a word, where the third token is the third mark
word_points : (text : List ℕ) (x : Operands) (o w c : ℕ) (t : Token) → get_or (spell (command o w x c)) 2 no_mark ≡ mark_of text t → PointsAt text x (word_command (word_of_form x) t)
word_points text (set_logic n) o w c t e = (t, refl, spells-symbol text t _ e n refl)
word_points text (declare_sort n z) o w c t e = refl
word_points text (declare_fun n p ss q s) o w c t e = refl
word_points text (declare_const n s) o w c t e = refl
word_points text (assert x) o w c t e = refl
word_points text (push n) o w c t e = ap₂ Push (value_of text t _ e n.value n.at refl) (place_of text t _ e n.value n.at refl)
word_points text (pop n) o w c t e = ap₂ Pop (value_of text t _ e n.value n.at refl) (place_of text t _ e n.value n.at refl)
word_points text check_sat o w c t e = refl
word_points text (check_sat_assuming p ls q) o w c t e = refl
word_points text (get_value p x xs q) o w c t e = refl
word_points text (get_info k) o w c t e = (t, refl, spells-keyword text t _ e k refl)
word_points text reset o w c t e = refl
word_points text exit o w c t e = refl

pub points : (text : List ℕ) (ts : List Token) (t : Tree) → spell t ≡ marks text ts → Points text t (command_of text ts)
points text ts (command o w x c) e =
    let second : mark (word (word_of_form x)) w ≡ mark_of text (get_or ts 1 no_token) = ap (λ ms. get_or ms 1 no_mark) e ∙ mark-at text ts 1 in
    let third = ap (λ ms. get_or ms 2 no_mark) e ∙ mark-at text ts 2 in
    subst (PointsAt text x) (ap (λ m. headed (sign m.says) (get_or ts 2 no_token)) second) (word_points text x o w c (get_or ts 2 no_token) third)
points text ts (other o n es c) e =
    let second : mark (symbol n.bytes) n.at ≡ mark_of text (get_or ts 1 no_token) = ap (λ ms. get_or ms 1 no_mark) e ∙ mark-at text ts 1 in
    sym (ap (λ m. headed (sign m.says) (get_or ts 2 no_token)) second) ∙ symbol_alike (λ s. headed s (get_or ts 2 no_token)) n.bytes refl refl

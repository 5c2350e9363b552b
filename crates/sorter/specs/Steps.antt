-- Terms read token by token, with a stack of operands and one of open applications.
use Rattle.std.specs.Prelude.{ℕ, Bool, true, false, cond, List, [], ◌∷◌, ◌++◌, length, take, drop, Ok, Result}
use Rattle.words.specs.Words.{spelling}
use Rattle.grammar.specs.Marks.{Mark, Lexeme, open_list, close_list, word, symbol, keyword, numeral, literal}
use Rattle.theory.specs.declared.Sort.{Sort}
use Rattle.theory.specs.declared.Head.{Head}
use Rattle.terms.specs.declared.SortFault.{SortFault}
use Rattle.terms.specs.Terms.{Term, Typed}
use Rattle.terms.specs.Scoping.{Scope, head_of}
use Rattle.terms.specs.Sorting.{after, found, applied, literal_at}
use Rattle.sorter.specs.declared.Frame.{Frame}

-- The operands so far, by their sorts and terms, oldest first; the open applications, newest first; and whether the next symbol is a head.
pub record Pending : Type 0 where
  pub sorts : List Sort
  pub terms : List Term
  pub frames : List Frame
  pub head : Bool

abbrev pub start : Pending
start = record { sorts = []; terms = []; frames = []; head = false }

abbrev pub frame : Head → ℕ → ℕ → Frame
frame h p n = record { head = h; place = p; below = n }

-- One operand more.
abbrev pub pushed : Pending → Typed → Pending
pushed s x = record { sorts = s.sorts ++ (x.sort ∷ []); terms = s.terms ++ (x.term ∷ []); frames = s.frames; head = false }

abbrev pub opening : Pending → Pending
opening s = record { sorts = s.sorts; terms = s.terms; frames = s.frames; head = true }

-- A head opens an application.
abbrev pub opened : Pending → Head → ℕ → Pending
opened s h p = record { sorts = s.sorts; terms = s.terms; frames = frame h p (length s.sorts) ∷ s.frames; head = false }

-- The operands without those of an application that closes.
abbrev pub without : Pending → ℕ → List Frame → Pending
without s n fs = record { sorts = take n s.sorts; terms = take n s.terms; frames = fs; head = false }

-- The newest application closes; where none is open nothing is done.
abbrev pub closed : Scope → Pending → List Frame → Result Pending SortFault
closed σ s [] = Ok s
closed σ s (f ∷ fs) =
    after (applied σ f.head f.place (drop f.below s.sorts) (drop f.below s.terms)) (λ x. Ok (pushed (without s f.below fs) x))

-- A symbol: the head of an application, or a constant.
abbrev pub named : Scope → Pending → List ℕ → ℕ → Result Pending SortFault
named σ s bs p =
    after (found (head_of σ bs) p) (λ h.
    cond s.head (Ok (opened s h p)) (after (applied σ h p [] []) (λ x. Ok (pushed s x))))

abbrev pub says : Scope → Pending → Lexeme → ℕ → Result Pending SortFault
says σ s open_list p = Ok (opening s)
says σ s close_list p = closed σ s s.frames
says σ s (word w) p = named σ s (spelling w) p
says σ s (symbol bs) p = named σ s bs p
says σ s (keyword bs) p = Ok s
says σ s (numeral n) p = Ok s
says σ s (literal w v) p = after (literal_at σ w v p) (λ x. Ok (pushed s x))

-- One token.
abbrev pub stepped : Scope → Pending → Mark → Result Pending SortFault
stepped σ s m = says σ s m.says m.at

-- All tokens, or the first fault.
abbrev pub read : Scope → Pending → List Mark → Result Pending SortFault
read σ s [] = Ok s
read σ s (m ∷ ms) = after (stepped σ s m) (λ t. read σ t ms)

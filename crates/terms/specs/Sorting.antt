-- The sort and the term of a piece of syntax, or the first fault met in reading and its place:
-- a term's head first, then its parts in order, then its own number of parts, their sorts, and its width.
use Rattle.std.specs.Prelude.{ℕ, cond, List, [], ◌∷◌, Some, None, Ok, Err, Option, Result, slice_index_or}
use Rattle.forms.specs.Syntax as syntax
use Rattle.theory.specs.declared.Logic.{Logic}
use Rattle.theory.specs.declared.Logic.TheVariants.{QfUf, QfBv}
use Rattle.theory.specs.declared.Sort.{Sort}
use Rattle.theory.specs.declared.Sort.TheVariants as sorts
use Rattle.theory.specs.declared.Head.{Head}
use Rattle.theory.specs.declared.Head.TheVariants as heads
use Rattle.theory.specs.declared.RankFault.{RankFault}
use Rattle.theory.specs.declared.RankFault.TheVariants as ranks
use Rattle.theory.specs.Ranks.{same_sort, same_sorts, given, rank, bits_of}
use Rattle.terms.specs.declared.SortFault.{SortFault}
use Rattle.terms.specs.declared.SortFault.TheVariants.{Unknown, Mismatch, NotBool, Width}
use Rattle.terms.specs.Terms.{Term, literal, apply, Typed, gathered}
use Rattle.terms.specs.Records.{Function}
use Rattle.terms.specs.Scoping.{Scope, head_of, sort_named}

abbrev pub after : {A B E : Type 0} → Result A E → (A → Result B E) → Result B E
after (Ok a) next = next a
after (Err e) next = Err e

-- What a name stands for, or that it doesn't stand.
abbrev pub found : {A : Type 0} → Option A → ℕ → Result A SortFault
found None p = Err (Unknown p)
found (Some a) p = Ok a

abbrev pub no_function : Function
no_function = record { name = []; arguments = []; result = sorts.Bool }

-- The sort of an application to parts of these sorts.
abbrev pub rank_of : Scope → Head → List Sort → Result Sort RankFault
rank_of s (heads.Theory o) ss = rank s.logic o ss
rank_of s (heads.Declared i) ss = given (same_sorts (slice_index_or s.functions i no_function).arguments ss) (slice_index_or s.functions i no_function).result

-- A fault of an application, at its head's place.
abbrev pub rank_fault : RankFault → ℕ → SortFault
rank_fault ranks.Mismatch p = Mismatch p
rank_fault ranks.Width p = Width p

abbrev pub typed : Sort → Term → Typed
typed s t = record { sort = s; term = t }

abbrev pub typed_at : Result Sort RankFault → ℕ → Term → Result Typed SortFault
typed_at (Ok s) p t = Ok (typed s t)
typed_at (Err f) p t = Err (rank_fault f p)

-- An application of a head, at its place, to parts of these sorts.
abbrev pub applied : Scope → Head → ℕ → List Sort → List Term → Result Typed SortFault
applied s h p ss ts = typed_at (rank_of s h ss) p (apply h (gathered ts))

-- A literal stands in QF_BV only, with 1 to 16 bits.
abbrev pub width_found : Option Sort → ℕ → Result Sort SortFault
width_found None p = Err (Width p)
width_found (Some s) p = Ok s

abbrev pub bits_at : Logic → ℕ → ℕ → Result Sort SortFault
bits_at QfUf w p = Err (Unknown p)
bits_at QfBv w p = width_found (bits_of w) p

abbrev pub literal_at : Scope → ℕ → ℕ → ℕ → Result Typed SortFault
literal_at s w v p = after (bits_at s.logic w p) (λ k. Ok (typed k (literal w v)))

abbrev pub sorts_in : List Typed → List Sort
sorts_in [] = []
sorts_in (x ∷ xs) = x.sort ∷ sorts_in xs

abbrev pub terms_in : List Typed → List Term
terms_in [] = []
terms_in (x ∷ xs) = x.term ∷ terms_in xs

abbrev mutual
  pub sorted : Scope → syntax.Term → Result Typed SortFault
  sorted s (syntax.term_symbol n) = after (found (head_of s n.bytes) n.at) (λ h. applied s h n.at [] [])
  sorted s (syntax.constant w v p) = literal_at s w v p
  sorted s (syntax.apply o f t ts c) =
      after (found (head_of s f.bytes) f.at) (λ h.
      after (sorted s t) (λ x.
      after (sorted_all s ts) (λ xs.
      applied s h f.at (x.sort ∷ sorts_in xs) (x.term ∷ terms_in xs))))

  pub sorted_all : Scope → syntax.Terms → Result (List Typed) SortFault
  sorted_all s syntax.no_terms = Ok []
  sorted_all s (syntax.more_terms t ts) = after (sorted s t) (λ x. after (sorted_all s ts) (λ xs. Ok (x ∷ xs)))

-- The place of a term's first token.
abbrev pub start_of : syntax.Term → ℕ
start_of (syntax.term_symbol n) = n.at
start_of (syntax.constant w v p) = p
start_of (syntax.apply o f t ts c) = o

abbrev pub bool_at : ℕ → Typed → Result Term SortFault
bool_at p x = cond (same_sort sorts.Bool x.sort) (Ok x.term) (Err (NotBool p))

-- An asserted term is Bool.
abbrev pub assertable : Scope → syntax.Term → Result Term SortFault
assertable s t = after (sorted s t) (bool_at (start_of t))

-- The sort that is written so.
abbrev pub sort_of : Scope → syntax.SortName → Result Sort SortFault
sort_of s (syntax.sort_symbol n) = found (sort_named s n.bytes) n.at
sort_of s (syntax.bit_vectors o u b w c) = bits_at s.logic w.value o

abbrev pub sort_start : syntax.SortName → ℕ
sort_start (syntax.sort_symbol n) = n.at
sort_start (syntax.bit_vectors o u b w c) = o

abbrev pub argument_at : ℕ → Sort → Result Sort SortFault
argument_at p k = cond (same_sort sorts.Bool k) (Err (Mismatch p)) (Ok k)

-- The sort of an argument: any but Bool.
abbrev pub argument_of : Scope → syntax.SortName → Result Sort SortFault
argument_of s k = after (sort_of s k) (argument_at (sort_start k))

abbrev pub arguments_of : Scope → List syntax.SortName → Result (List Sort) SortFault
arguments_of s [] = Ok []
arguments_of s (k ∷ ks) = after (argument_of s k) (λ x. after (arguments_of s ks) (λ xs. Ok (x ∷ xs)))

-- A declared function: its arguments from left to right, then its result.
abbrev pub function_of : Scope → List ℕ → List syntax.SortName → syntax.SortName → Result Function SortFault
function_of s n ks k = after (arguments_of s ks) (λ xs. after (sort_of s k) (λ x. Ok (record { name = n; arguments = xs; result = x })))

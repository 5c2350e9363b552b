-- What a turn of the reading loop keeps.
use Rattle.std.proofs.Common.{◌≡◌, ℕ, zero, suc, ◌+◌, ◌-◌, ◌<◌, ◌≤◌, List, [], ◌∷◌, ◌++◌, length, take, set, Some, None, Ok, Err, Result, sym, refl, ap, ◌∙◌, subst, append_assoc, append-nil, arith, length-set}
use Rattle.std.proofs.lemmas.List.{take_more_set, length-take-le}
use Rattle.tokens.specs.declared.Token.{Token}
use Rattle.tokens.specs.declared.TokenFault.{TokenFault}
use Rattle.tokens.specs.Lexing.{next, onto, before, tokens_from, tokens, Rows}

before_nil : (r : Result (List Token) TokenFault) → before [] r ≡ r
before_nil (Ok ts) = refl
before_nil (Err e) = refl

before-before : (xs ys : List Token) (r : Result (List Token) TokenFault) → before xs (before ys r) ≡ before (xs ++ ys) r
before-before xs ys (Ok ts) = ap Ok (sym (append_assoc xs ys ts))
before-before xs ys (Err e) = refl

pub none : (most : ℕ) (text : List ℕ) (at : ℕ) → next text at ≡ Ok None → tokens_from most text at ≡ Ok []
unfolding tokens_from
none zero text at e = refl
none (suc most) text at e = ap (λ r. onto r (λ t. tokens_from most text t.end)) e

pub fault : (most : ℕ) (text : List ℕ) (at : ℕ) (f : TokenFault) → next text at ≡ Err f → 0 < most → tokens_from most text at ≡ Err f
unfolding tokens_from
fault zero text at f e h = absurd (omega arith)
fault (suc most) text at f e h = ap (λ r. onto r (λ t. tokens_from most text t.end)) e

pub more : (most : ℕ) (text : List ℕ) (at : ℕ) (t : Token) → next text at ≡ Ok (Some t) → tokens_from (suc most) text at ≡ before (t ∷ []) (tokens_from most text t.end)
unfolding tokens_from
more most text at t e = ap (λ r. onto r (λ t. tokens_from most text t.end)) e

-- n rows are filled, and the reading has come to the place `at`
pub record Sofar (text : List ℕ) (table : List Token) (n at : ℕ) : Type 0 where
  pub left : before (take n table) (tokens_from (length text - n) text at) ≡ tokens text
  pub fewer : n ≤ at
  pub within : at ≤ length text
  pub long : length table ≡ 4096

pub begins : (text : List ℕ) (table : List Token) → length table ≡ 4096 → Sofar text table 0 0
begins text table long = record { left = before_nil _ ∙ ap (λ k. tokens_from k text 0) (omega arith); fewer = omega arith; within = omega arith; long = long }

pub one_more : (text : List ℕ) (table : List Token) (n at : ℕ) (t : Token) → length text ≤ 4096 → at < t.end → t.end ≤ length text → next text at ≡ Ok (Some t) → Sofar text table n at → Sofar text (set table n t) (n + 1) t.end
one_more text table n at t short fwd in-text e s =
    let k : length text - n ≡ suc (length text - (n + 1)) = omega (arith, s.fewer) in
    let room : n < length table = omega (arith, s.long, s.fewer) in
    record {
      left = rw (take_more_set table n t room) (sym (before-before (take n table) (t ∷ []) _) ∙ ap (before (take n table)) (sym (ap (λ j. tokens_from j text at) k ∙ more _ text at t e)) ∙ s.left);
      fewer = omega (arith, s.fewer);
      within = in-text;
      long = simp length-set s.long;
    }

pub done : (text : List ℕ) (table : List Token) (n at : ℕ) → length text ≤ 4096 → next text at ≡ Ok None → Sofar text table n at → Rows (tokens text) table (Ok n)
done text table n at short e s =
    let same : tokens text ≡ Ok (take n table) = sym s.left ∙ ap (before (take n table)) (none _ text at e) ∙ ap Ok (append-nil _) in
    let long : length (take n table) ≡ n = length-take-le n table (omega (arith, s.long, s.fewer, s.within)) in
    subst (λ r. Rows r table (Ok n)) (sym same) (ap Ok (sym long), ap (λ j. take j table) long)

pub refused : (text : List ℕ) (table rows : List Token) (n at : ℕ) (f : TokenFault) → at < length text → next text at ≡ Err f → Sofar text table n at → Rows (tokens text) rows (Err f)
refused text table rows n at f inside e s =
    let same : tokens text ≡ Err f = sym s.left ∙ ap (before (take n table)) (fault _ text at f e (omega (arith, s.fewer))) in
    subst (λ r. Rows r rows (Err f)) (sym same) refl

-- what the rows are, once they are in the table
pub rows_read : (r : Result (List Token) TokenFault) (table : List Token) (n : ℕ) → Rows r table (Ok n) → Ok (take n table) ≡ r
rows_read (Ok ts) table n (k, e) = let same : n ≡ length ts = cc in ap Ok (ap (λ j. take j table) same ∙ e)
rows_read (Err f) table n e = cc

pub rows_refused : (r : Result (List Token) TokenFault) (table : List Token) (f : TokenFault) → Rows r table (Err f) → Err f ≡ r
rows_refused (Ok ts) table f (k, e) = cc
rows_refused (Err g) table f e = let same : f ≡ g = cc in ap Err same

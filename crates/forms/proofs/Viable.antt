-- The first token that is wrong: what is read before it can be continued, and with it nothing can.
use Rattle.std.proofs.Common.{◌≡◌, ℕ, suc, List, [], ◌∷◌, ◌++◌, take, Some, None, Option, sym, refl, ap, ◌∙◌, subst, arith, Ok, Err, Result}
use Rattle.grammar.specs.declared.items.Item.{Item}
use Rattle.grammar.specs.declared.items.Misfit.{Misfit}
use Rattle.grammar.specs.declared.items.Misfit.TheVariants.{Wrong, Short}
use Rattle.grammar.specs.Marks.{Mark, sign}
use Rattle.grammar.specs.Machine.{step, then_run, at_end, run}
use Rattle.forms.specs.Laws.{Continued, FirstWrong, Incomplete}
use Rattle.forms.proofs.Parses.{any, writes}
use Rattle.forms.proofs.Accepts.{written-accepted}
use Rattle.forms.proofs.Spelled.{wrong_apart, short_apart}

abbrev pub Accepts : List Item → List Mark → Type 0
Accepts σ ms = run σ ms ≡ Ok tt

-- where a wrong token is, told by the outcome
abbrev AtWrong : (ℕ → Type 0) → Result (Unit {0}) Misfit → Type 0
AtWrong P (Ok u) = Unit {0}
AtWrong P (Err (Wrong p)) = P p
AtWrong P (Err Short) = Unit {0}

abbrev IsShort : Result (Unit {0}) Misfit → Type 0
IsShort (Ok u) = ⊥
IsShort (Err (Wrong p)) = ⊥
IsShort (Err Short) = Unit {0}

pub completed : (σ : List Item) → Continued (Accepts σ) []
completed σ = (writes σ (any σ), written-accepted σ (any σ))

-- one token before
later : (σ τ : List Item) (m : Mark) (ms : List Mark) (p : ℕ) → step σ (sign m.says) ≡ Some τ → FirstWrong (Accepts τ) ms p → FirstWrong (Accepts σ) (m ∷ ms) p
later σ τ m ms p e w =
    let same : (l : List Mark) → run σ (m ∷ l) ≡ run τ l = λ l. ap (λ o. then_run o m.at (λ next. run next l)) e in
    record {
      index = suc w.index;
      within = omega (arith, w.within);
      place = w.place;
      before = (w.before.0, same (take w.index ms ++ w.before.0) ∙ w.before.1);
      with_it = λ c. w.with_it (c.0, sym (same (take (suc w.index) ms ++ c.0)) ∙ c.1);
    }

here : (σ : List Item) (m : Mark) (ms : List Mark) → step σ (sign m.says) ≡ None → FirstWrong (Accepts σ) (m ∷ ms) m.at
here σ m ms e = record {
  index = 0;
  within = omega arith;
  place = refl;
  before = completed σ;
  with_it = λ c. wrong_apart (sym (ap (λ o. then_run o m.at (λ next. run next c.0)) e) ∙ c.1);
}

none-wrong : (σ : List Item) → AtWrong (FirstWrong (Accepts σ) []) (at_end σ)
none-wrong [] = tt
none-wrong (i ∷ σ) = tt

one-wrong : (σ : List Item) (m : Mark) (ms : List Mark) (o : Option (List Item)) → step σ (sign m.says) ≡ o
    → ((τ : List Item) → AtWrong (FirstWrong (Accepts τ) ms) (run τ ms)) → AtWrong (FirstWrong (Accepts σ) (m ∷ ms)) (then_run o m.at (λ next. run next ms))
one-wrong σ m ms None e rest = here σ m ms e
one-wrong σ m ms (Some τ) e rest = at-wrong (run τ ms) (rest τ)
  where
    at-wrong : (r : Result (Unit {0}) Misfit) → AtWrong (FirstWrong (Accepts τ) ms) r → AtWrong (FirstWrong (Accepts σ) (m ∷ ms)) r
    at-wrong (Ok u) w = tt
    at-wrong (Err (Wrong p)) w = later σ τ m ms p e w
    at-wrong (Err Short) w = tt

first-wrong : (ms : List Mark) (σ : List Item) → AtWrong (FirstWrong (Accepts σ) ms) (run σ ms)
first-wrong [] σ = none-wrong σ
first-wrong (m ∷ ms) σ = one-wrong σ m ms (step σ (sign m.says)) refl (λ τ. first-wrong ms τ)

-- tokens that end too early can be continued
short_end : (σ : List Item) → at_end σ ≡ Err Short → Continued (Accepts σ) []
short_end σ e = completed σ

one_short : (σ : List Item) (m : Mark) (ms : List Mark) (o : Option (List Item)) → step σ (sign m.says) ≡ o
    → ((τ : List Item) → run τ ms ≡ Err Short → Continued (Accepts τ) ms) → then_run o m.at (λ next. run next ms) ≡ Err Short → Continued (Accepts σ) (m ∷ ms)
one_short σ m ms None e rest h = absurd (subst IsShort (sym h) tt)
one_short σ m ms (Some τ) e rest h =
    let c = rest τ h in
    (c.0, ap (λ o. then_run o m.at (λ next. run next (ms ++ c.0))) e ∙ c.1)

short_continued : (ms : List Mark) (σ : List Item) → run σ ms ≡ Err Short → Continued (Accepts σ) ms
short_continued [] σ e = short_end σ e
short_continued (m ∷ ms) σ e = one_short σ m ms (step σ (sign m.says)) refl (λ τ. short_continued ms τ) e

-- nothing stands behind what is accepted
one-whole : (σ : List Item) (m : Mark) (ms : List Mark) (x : Mark) (rest : List Mark) (o : Option (List Item)) → step σ (sign m.says) ≡ o
    → ((τ : List Item) → Accepts τ ms → Accepts τ (ms ++ (x ∷ rest)) → ⊥) → then_run o m.at (λ next. run next ms) ≡ Ok tt → Accepts σ (m ∷ (ms ++ (x ∷ rest))) → ⊥
one-whole σ m ms x rest None e ih h k = wrong_apart h
one-whole σ m ms x rest (Some τ) e ih h k = ih τ h (sym (ap (λ o. then_run o m.at (λ next. run next (ms ++ (x ∷ rest)))) e) ∙ k)

pub whole : (ms : List Mark) (σ : List Item) (x : Mark) (rest : List Mark) → Accepts σ ms → Accepts σ (ms ++ (x ∷ rest)) → ⊥
whole [] [] x rest h k = wrong_apart k
whole [] (i ∷ σ) x rest h k = short_apart h
whole (m ∷ ms) σ x rest h k = one-whole σ m ms x rest (step σ (sign m.says)) refl (λ τ. whole ms τ x rest) h k

-- the same for what the machine accepts exactly
module _ (P : List Mark → Type 0) (σ : List Item) (to : (ms : List Mark) → P ms → Accepts σ ms) (from : (ms : List Mark) → Accepts σ ms → P ms) where
  pub wrong_first : (ms : List Mark) (p : ℕ) → run σ ms ≡ Err (Wrong p) → FirstWrong P ms p
  wrong_first ms p e =
      let w : FirstWrong (Accepts σ) ms p = subst (AtWrong (FirstWrong (Accepts σ) ms)) e (first-wrong ms σ) in
      record {
        index = w.index;
        within = w.within;
        place = w.place;
        before = (w.before.0, from (take w.index ms ++ w.before.0) w.before.1);
        with_it = λ c. w.with_it (c.0, to (take (suc w.index) ms ++ c.0) c.1);
      }

  pub short_incomplete : (ms : List Mark) → run σ ms ≡ Err Short → Incomplete P ms
  short_incomplete ms e =
      let c = short_continued ms σ e in
      record { before = (c.0, from (ms ++ c.0) c.1); alone = λ h. short_apart (sym e ∙ to ms h) }

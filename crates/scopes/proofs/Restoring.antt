-- The law of closing, by induction over the acts.
use Rattle.std.proofs.Common.{◌≡◌, ℕ, ◌+◌, ◌-◌, ◌<◌, ◌≤◌, eqb, ltb, leb, List, [], ◌∷◌, ◌++◌, length, get_or, take, Ok, Result, sym, refl, ap, ◌∙◌, subst, ⊎_elim, arith}
use Rattle.std.proofs.lemmas.Bool.{cases_eq, cond_both, eqb-false, le-leb, ne_eqb, cond-true, cond-false}
use Rattle.std.proofs.lemmas.List.{take_all, length-take, length-take-le, length_push, take-append-le, take-take, take_at, get_or_append_left, get_or_push, get_or-take}
use Rattle.scopes.specs.declared.NoRoom.{NoRoom}
use Rattle.scopes.specs.declared.TooMany.{TooMany}
use Rattle.scopes.specs.Stacks.{Scoped, depth, opened, closed, cut}
use Rattle.scopes.specs.Histories.{Act, adds, opens, closes, acted, run, Above, Restores}

pub closed_some : {A : Type 0} (s : Scoped A) (n : ℕ) → 0 < n → n ≤ depth s → closed s n ≡ (cut s (depth s - n), Ok tt)
closed_some s n p h = cond-true (leb n (depth s)) _ _ (le-leb n (depth s) h) ∙ cond-false (eqb n 0) _ _ (ne_eqb n 0 (λ q. omega arith))

-- In t stands all that stood in s, the level that was opened next, and only newer levels above it.
record Kept {A : Type 0} (s t : Scoped A) : Type 0 where
  rows : take (length s.rows) t.rows ≡ s.rows
  levels : take (depth s + 1) t.levels ≡ s.levels ++ length s.rows ∷ []
  later : (i : ℕ) → depth s ≤ i → i < depth t → length s.rows ≤ get_or t.levels i 0

module _ {A : Type 0} (room deep : ℕ) (s : Scoped A) where
  many : (t : Scoped A) → Kept s t → length s.rows ≤ length t.rows
  many t k = omega (arith, length-take (length s.rows) t.rows, ap length k.rows)

  after_add : (t : Scoped A) (x : A) → Kept s t → Kept s (record { rows = t.rows ++ x ∷ []; levels = t.levels })
  after_add t x k = record { rows = take-append-le (length s.rows) t.rows (x ∷ []) (many t k) ∙ k.rows; levels = k.levels; later = k.later }

  after_open : (t : Scoped A) → Kept s t → depth s < depth t → Kept s (record { rows = t.rows; levels = t.levels ++ length t.rows ∷ [] })
  after_open t k h =
      record {
        rows = k.rows;
        levels = take-append-le (depth s + 1) t.levels (length t.rows ∷ []) (omega arith) ∙ k.levels;
        later =
            λ i from to.
            ⊎_elim
            (λ q. omega (arith, many t k, get_or_push t.levels (length t.rows) 0 i (sym q)))
            (λ n.
            let to' : i < depth t = omega (arith, length_push t.levels (length t.rows)) in
            omega (arith, k.later i from to', get_or_append_left t.levels (length t.rows ∷ []) 0 i to'))
            (cases_eq i (depth t));
      }

  after-cut : (t : Scoped A) (d : ℕ) → Kept s t → d < depth t → depth s < depth (cut t d) → Kept s (cut t d)
  after-cut t d k h l =
      let long = length-take-le d t.levels (omega arith) in
      let at = k.later d (omega arith) h in
      record {
        rows = take-take (length s.rows) (get_or t.levels d 0) t.rows at ∙ k.rows;
        levels = take-take (depth s + 1) d t.levels (omega arith) ∙ k.levels;
        later = λ i from to. omega (arith, k.later i from (omega arith), get_or-take d t.levels i 0 (omega arith));
      }

  -- more levels are open than in s, so s is kept
  abbrev Still : Scoped A × Result (Unit {0}) TooMany → Type 0
  Still p = depth s < depth p.0 → Kept s p.0

  after : (t : Scoped A) (a : Act A) → Kept s t → depth s < depth t → depth s < depth (acted room deep t a) → Kept s (acted room deep t a)
  after t (adds x) k h l = cond_both (ltb (length t.rows) room) _ _ (λ (p : Scoped A × Result (Unit {0}) NoRoom). Kept s p.0) (λ _. after_add t x k) (λ _. k)
  after t opens k h l = cond_both (ltb (depth t) deep) _ _ (λ (p : Scoped A × Result (Unit {0}) NoRoom). Kept s p.0) (λ _. after_open t k h) (λ _. k)
  after t (closes n) k h l =
      cond_both (leb n (depth t)) _ _ Still
      (λ _. cond_both (eqb n 0) _ _ Still (λ _ _. k) (λ e. let ne = eqb-false n 0 e in after-cut t (depth t - n) k (omega arith)))
      (λ _ _. k)
      l

  first : (t : Scoped A) (acts : List (Act A)) → Above room deep (depth s) t acts → depth s < depth t
  first t [] h = h
  first t (a ∷ more) h = h.0

  at_end_lem : (t : Scoped A) (acts : List (Act A)) → Kept s t → Above room deep (depth s) t acts → Kept s (run room deep t acts) × (depth s < depth (run room deep t acts))
  at_end_lem t [] k h = (k, h)
  at_end_lem t (a ∷ more) k h =
      let t' = acted room deep t a in
      at_end_lem t' more (after t a k h.0 (first t' more h.1)) h.1

  opened_kept : Kept s (record { rows = s.rows; levels = s.levels ++ length s.rows ∷ [] })
  opened_kept =
      let long = length_push s.levels (length s.rows) in
      record {
        rows = take_all (length s.rows) s.rows (omega arith);
        levels = take_all (depth s + 1) (s.levels ++ length s.rows ∷ []) (omega arith);
        later = λ i from to. omega (arith, get_or_push s.levels (length s.rows) 0 i (omega arith));
      }

  begun : (opened deep s).1 ≡ Ok tt → Kept s (opened deep s).0
  begun = cond_both (ltb (depth s) deep) _ _ (λ (p : Scoped A × Result (Unit {0}) NoRoom). p.1 ≡ Ok tt → Kept s p.0) (λ _ _. opened_kept) (λ _ e. absurd (let z : ◌≡◌ {A = ℕ} 0 1 = cc in omega arith))

  back : (t : Scoped A) → Kept s t → depth s < depth t → cut t (depth s) ≡ s
  back t k h =
      let d = depth s in
      let at : get_or t.levels d 0 ≡ length s.rows =
      sym (get_or-take (d + 1) t.levels d 0 (omega arith)) ∙ ap (λ ls. get_or ls d 0) k.levels ∙ get_or_push s.levels (length s.rows) 0 d refl in
      let ls : take d t.levels ≡ s.levels =
      sym (take-take d (d + 1) t.levels (omega arith)) ∙ ap (take d) k.levels ∙ take_at s.levels (length s.rows ∷ []) d refl in
      let rs : take (get_or t.levels d 0) t.rows ≡ s.rows = ap (λ n. take n t.rows) at ∙ k.rows in
      λ i. record { rows = rs i; levels = ls i }

  gives : (t : Scoped A) (n : ℕ) → Kept s t → depth s < depth t → n ≡ depth t - depth s → closed t n ≡ (s, Ok tt)
  gives t n k h is =
      let d : depth t - n ≡ depth s = omega arith in
      closed_some t n (omega arith) (omega arith)
      ∙ ap (λ m. (cut t m, Ok tt)) d
      ∙ ap (λ u. (u, Ok tt)) (back t k h)

  pub returned : (t : Scoped A) (n : ℕ) (acts : List (Act A)) → (opened deep s).1 ≡ Ok tt → Above room deep (depth s) (opened deep s).0 acts → run room deep (opened deep s).0 acts ≡ t → n ≡ depth t - depth s → closed t n ≡ (s, Ok tt)
  returned t n acts ok above to is =
      let ended = at_end_lem (opened deep s).0 acts (begun ok) above in
      gives t n (subst (Kept s) to ended.0) (subst (λ u. depth s < depth u) to ended.1) is

-- What closing gives fulfils the law.
pub restores : {A : Type 0} (t : Scoped A) (n : ℕ) (t' : Scoped A) (r : Result (Unit {0}) TooMany) → (t', r) ≡ closed t n → Restores t n t' r
restores t n t' r e =
    record { restored = λ room deep s acts ok above to is. let f = e ∙ returned room deep s t n acts ok above to is in (ap (λ p. p.0) f, ap (λ p. p.1) f) }

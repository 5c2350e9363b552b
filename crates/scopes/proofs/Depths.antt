-- The law of depths.
use Rattle.std.proofs.Common.{◌≡◌, ℕ, zero, suc, ◌+◌, ◌-◌, ◌<◌, ◌≤◌, eqb, ltb, leb, List, [], ◌∷◌, ◌++◌, map, length, get_or, take, set, Result, sym, refl, ap, ◌∙◌, subst, arith}
use Rattle.std.proofs.lemmas.Bool.{cond_both, leb-true, eqb-true, eqb-false}
use Rattle.std.proofs.lemmas.Bool.Decides.{nat_tests}
use Rattle.std.proofs.lemmas.List.{length-take-le, get_or-take, take_all, take-take, take_more_set}
use Rattle.scopes.specs.declared.NoRoom.{NoRoom}
use Rattle.scopes.specs.declared.TooMany.{TooMany}
use Rattle.scopes.specs.Stacks.{Scoped, depth, view, added, opened, closed, Sound}
use Rattle.scopes.specs.Depths.{Deep, depth_at, deep_from, deep, standing, map_deep, Leveled, AddDepths, CloseDepths}

-- every level began at or before the index, so the depth is the number of levels
depth_all : (ls : List ℕ) (i : ℕ) → ((j : ℕ) → j < length ls → get_or ls j 0 ≤ i) → depth_at ls i ≡ length ls
depth_all [] i h = refl
depth_all (l ∷ ls) i h = grind (arith, nat_tests, h 0, depth_all ls i (λ j k. h (suc j) (omega arith)))

pub depth_most : (ls : List ℕ) (i : ℕ) → depth_at ls i ≤ length ls
depth_most [] i = omega arith
depth_most (l ∷ ls) i = grind (arith, nat_tests, depth_most ls i)

-- a level that began later does not count
depth_later : (ls : List ℕ) (k i : ℕ) → i < k → depth_at (ls ++ k ∷ []) i ≡ depth_at ls i
depth_later [] k i h = grind (arith, nat_tests)
depth_later (l ∷ ls) k i h = grind (arith, nat_tests, depth_later ls k i h)

-- before the level with the index d began, at most d levels were open
depth_low : (ls : List ℕ) (d i : ℕ) → i < get_or ls d 0 → depth_at ls i ≤ d
depth_low [] d i h = omega arith
depth_low (l ∷ ls) zero i h = grind (arith, nat_tests)
depth_low (l ∷ ls) (suc d) i h = grind (arith, nat_tests, depth_low ls d i h)

-- after the first d levels and the next began, more than d were open
depth_high : (ls : List ℕ) (d i : ℕ) → d < length ls → ((j : ℕ) → j ≤ d → get_or ls j 0 ≤ i) → d < depth_at ls i
depth_high [] d i k h = omega arith
depth_high (l ∷ ls) zero i k h = grind (arith, nat_tests, h 0)
depth_high (l ∷ ls) (suc d) i k h = grind (arith, nat_tests, h 0, depth_high ls d i (omega arith) (λ j b. h (suc j) (omega arith)))

-- the first d levels alone give the same depth to a row from before the next level
depth-take : (ls : List ℕ) (d i : ℕ) → d < length ls → i < get_or ls d 0 → depth_at (take d ls) i ≡ depth_at ls i
depth-take [] d i k h = omega arith
depth-take (l ∷ ls) zero i k h = grind (arith, nat_tests)
depth-take (l ∷ ls) (suc d) i k h = grind (arith, nat_tests, depth-take ls d i (omega arith) h)

abbrev Rising : List ℕ → Type 0
Rising ls = (i j : ℕ) → i ≤ j → j < length ls → get_or ls i 0 ≤ get_or ls j 0

module _ {A : Type 0} where
  pub length-deep_from : (ls : List ℕ) (i : ℕ) (xs : List A) → length (deep_from ls i xs) ≡ length xs
  length-deep_from ls i [] = refl
  length-deep_from ls i (x ∷ xs) = ap suc (length-deep_from ls (suc i) xs)

  pub length-deep : (s : Scoped A) → length (deep s) ≡ length s.rows
  length-deep s = length-deep_from s.levels 0 s.rows

  -- the rows are the rows
  pub items-deep_from : (ls : List ℕ) (i : ℕ) (xs : List A) → map (λ (x : Deep A). x.item) (deep_from ls i xs) ≡ xs
  items-deep_from ls i [] = refl
  items-deep_from ls i (x ∷ xs) = ap (λ ys. x ∷ ys) (items-deep_from ls (suc i) xs)

  pub items-deep : (s : Scoped A) → map (λ (x : Deep A). x.item) (deep s) ≡ s.rows
  items-deep s = items-deep_from s.levels 0 s.rows

  push_from : (ls : List ℕ) (i : ℕ) (xs : List A) (x : A) → deep_from ls i (xs ++ x ∷ []) ≡ deep_from ls i xs ++ record { item = x; depth = depth_at ls (i + length xs) } ∷ []
  push_from ls i [] x = let e : i ≡ i + 0 = omega arith in ap (λ n. record { item = x; depth = depth_at ls n } ∷ []) e
  push_from ls i (y ∷ ys) x =
      let e : suc i + length ys ≡ i + suc (length ys) = omega arith in
      ap (λ zs. record { item = y; depth = depth_at ls i } ∷ zs)
      (push_from ls (suc i) ys x
      ∙ ap (λ n. deep_from ls (suc i) ys ++ record { item = x; depth = depth_at ls n } ∷ []) e)

  -- Adding: the new row has the number of open levels as its depth, and the others keep theirs.
  pub deep-push : (rows : List A) (levels : List ℕ) (x : A) → ((i : ℕ) → i < length levels → get_or levels i 0 ≤ length rows) →
      deep_from levels 0 (rows ++ x ∷ []) ≡ deep_from levels 0 rows ++ record { item = x; depth = length levels } ∷ []
  deep-push rows levels x h =
      let e : 0 + length rows ≡ length rows = omega arith in
      push_from levels 0 rows x
      ∙ ap (λ n. deep_from levels 0 rows ++ record { item = x; depth = n } ∷ []) (ap (depth_at levels) e ∙ depth_all levels (length rows) h)

  open_from : (ls : List ℕ) (k i : ℕ) (xs : List A) → i + length xs ≤ k → deep_from (ls ++ k ∷ []) i xs ≡ deep_from ls i xs
  open_from ls k i [] h = refl
  open_from ls k i (x ∷ xs) h = grind (arith, depth_later ls k i, open_from ls k (suc i) xs)

  -- Opening: each row keeps its depth.
  pub deep_open : (rows : List A) (levels : List ℕ) → deep_from (levels ++ length rows ∷ []) 0 rows ≡ deep_from levels 0 rows
  deep_open rows levels = open_from levels (length rows) 0 rows (omega arith)

  -- what is left of the rows from the index i on
  abbrev left : List ℕ → ℕ → ℕ → List A → List (Deep A)
  left ls d i xs = deep_from (take d ls) i (take (get_or ls d 0 - i) xs)

  left-none : (ls : List ℕ) (d i : ℕ) (xs : List A) → get_or ls d 0 ≤ i → left ls d i xs ≡ []
  left-none ls d i xs h = let e : get_or ls d 0 - i ≡ 0 = omega arith in ap (λ n. deep_from (take d ls) i (take n xs)) e

  left_one : (ls : List ℕ) (d i : ℕ) (x : A) (xs : List A) → i < get_or ls d 0 → left ls d i (x ∷ xs) ≡ record { item = x; depth = depth_at (take d ls) i } ∷ left ls d (suc i) xs
  left_one ls d i x xs h = let e : get_or ls d 0 - i ≡ suc (get_or ls d 0 - suc i) = omega arith in ap (λ n. deep_from (take d ls) i (take n (x ∷ xs))) e

  close_from : (ls : List ℕ) (d i : ℕ) (xs : List A) → d < length ls → Rising ls → left ls d i xs ≡ standing d (deep_from ls i xs)
  close_from ls d i [] k r = ap (deep_from (take d ls) i) (take_all (get_or ls d 0 - i) [] (omega arith))
  close_from ls d i (x ∷ xs) k r =
      let more = close_from ls d (suc i) xs k r in
      grind (arith, nat_tests, depth-take ls d i k, depth_low ls d i, depth_high ls d i k, left_one ls d i x xs, left-none ls d i (x ∷ xs), left-none ls d (suc i) xs, r)

  -- Closing: just the rows stay that are no deeper than the levels that are left.
  pub deep-cut : (rows : List A) (levels : List ℕ) (d : ℕ) → d < length levels → Rising levels →
      deep_from (take d levels) 0 (take (get_or levels d 0) rows) ≡ standing d (deep_from levels 0 rows)
  deep-cut rows levels d h r =
      let e : get_or levels d 0 ≡ get_or levels d 0 - 0 = omega arith in
      ap (λ n. deep_from (take d levels) 0 (take n rows)) e ∙ close_from levels d 0 rows h r

  all_from : (ls : List ℕ) (d i : ℕ) (xs : List A) → length ls ≤ d → standing d (deep_from ls i xs) ≡ deep_from ls i xs
  all_from ls d i [] h = refl
  all_from ls d i (x ∷ xs) h = grind (arith, nat_tests, depth_most ls i, all_from ls d (suc i) xs h)

  -- The first rows have the depths that they had.
  pub deep_from-take : (ls : List ℕ) (i k : ℕ) (xs : List A) → deep_from ls i (take k xs) ≡ take k (deep_from ls i xs)
  deep_from-take ls i zero xs = refl
  deep_from-take ls i (suc k) [] = refl
  deep_from-take ls i (suc k) (x ∷ xs) = ap (λ ys. record { item = x; depth = depth_at ls i } ∷ ys) (deep_from-take ls (suc i) k xs)

  -- No row is deeper than the number of open levels.
  pub deep_all : (rows : List A) (levels : List ℕ) → standing (length levels) (deep_from levels 0 rows) ≡ deep_from levels 0 rows
  deep_all rows levels = all_from levels (length levels) 0 rows (omega arith)

  pub depth-within : (ls : List ℕ) (i k : ℕ) (xs : List A) (x : Deep A) → k < length xs → (get_or (deep_from ls i xs) k x).depth ≤ length ls
  depth-within ls i k [] x h = omega arith
  depth-within ls i zero (y ∷ ys) x h = depth_most ls i
  depth-within ls i (suc k) (y ∷ ys) x h = depth-within ls (suc i) k ys x (omega arith)

  pub deep-within : (s : Scoped A) (k : ℕ) (x : Deep A) → k < length s.rows → (get_or (deep s) k x).depth ≤ depth s
  deep-within s k x h = depth-within s.levels 0 k s.rows x h

  -- What stands at a depth.
  pub standing-append : (d : ℕ) (xs ys : List (Deep A)) → standing d (xs ++ ys) ≡ standing d xs ++ standing d ys
  standing-append d [] ys = refl
  standing-append d (x ∷ xs) ys = grind (arith, nat_tests, standing-append d xs ys)

  -- Closing twice is closing to the lower depth.
  pub standing-standing : (d e : ℕ) (xs : List (Deep A)) → d ≤ e → standing d (standing e xs) ≡ standing d xs
  standing-standing d e [] h = refl
  standing-standing d e (x ∷ xs) h = grind (arith, nat_tests, standing-standing d e xs h)

  -- The laws on stacks.
  pub sound-leveled : (rows : List A) (count : ℕ) (levels : List ℕ) (deep : ℕ) → Sound rows count levels deep → Leveled (view rows count levels deep)
  sound-leveled rows count levels deep s =
      let many = length-take-le count rows s.long in
      let long = length-take-le deep levels s.deep in
      record {
        below = λ i h. omega (arith, get_or-take deep levels i 0 (omega arith), s.below i (omega arith));
        rising = λ i j h k. omega (arith, get_or-take deep levels i 0 (omega arith), get_or-take deep levels j 0 (omega arith), s.rising i j h (omega arith));
      }

  pub deep-added : (room : ℕ) (s t : Scoped A) (x : A) (r : Result (Unit {0}) NoRoom) → Leveled s → (t, r) ≡ added room s x → AddDepths s x t r
  deep-added room s t x r l e =
      subst (λ (p : Scoped A × Result (Unit {0}) NoRoom). AddDepths s x p.0 p.1) (sym e)
      (cond_both (ltb (length s.rows) room) _ _ (λ (p : Scoped A × Result (Unit {0}) NoRoom). AddDepths s x p.0 p.1)
      (λ _. deep-push s.rows s.levels x l.below)
      (λ _. refl))

  pub deep-opened : (room : ℕ) (s t : Scoped A) (r : Result (Unit {0}) NoRoom) → (t, r) ≡ opened room s → deep t ≡ deep s
  deep-opened room s t r e = grind (arith, nat_tests, e, deep_open s.rows s.levels)

  pub none-closed : (s : Scoped A) (n : ℕ) → n ≡ 0 → deep s ≡ standing (depth s - n) (deep s)
  none-closed s n z = let e : depth s ≡ depth s - n = omega arith in sym (deep_all s.rows s.levels) ∙ ap (λ d. standing d (deep s)) e

  pub deep-closed : (n : ℕ) (s t : Scoped A) (r : Result (Unit {0}) TooMany) → Leveled s → (t, r) ≡ closed s n → CloseDepths s n t r
  deep-closed n s t r l e =
      let P : Scoped A × Result (Unit {0}) TooMany → Type 0 = λ p. CloseDepths s n p.0 p.1 in
      subst P (sym e)
      (cond_both (leb n (depth s)) _ _ P
      (λ a.
      cond_both (eqb n 0) _ _ P
      (λ b. none-closed s n (eqb-true n 0 b))
      (λ b.
      let some = eqb-false n 0 b in
      let most = leb-true n (depth s) a in
      deep-cut s.rows s.levels (depth s - n) (omega arith) l.rising))
      (λ _. refl))

-- The laws on tables and counts.
module _ {A : Type 0} (rows : List A) (count : ℕ) (levels : List ℕ) (open' : ℕ) (s : Sound rows count levels open') where
  pub add_deep : (x : A) → count < length rows →
      deep (view (set rows count x) (count + 1) levels open') ≡ deep (view rows count levels open') ++ record { item = x; depth = length (take open' levels) } ∷ []
  add_deep x h =
      ap (deep_from (take open' levels) 0) (take_more_set rows count x h)
      ∙ deep-push (take count rows) (take open' levels) x (sound-leveled rows count levels open' s).below

  pub open_deep : open' < length levels → deep (view rows count (set levels open' count) (open' + 1)) ≡ deep (view rows count levels open')
  open_deep h =
      ap (λ ls. deep_from ls 0 (take count rows)) (take_more_set levels open' count h ∙ ap (λ k. take open' levels ++ k ∷ []) (sym (length-take-le count rows s.long)))
      ∙ deep_open (take count rows) (take open' levels)

  pub close_deep : (n : ℕ) → 0 < n → n ≤ open' →
      deep (view rows (get_or levels (open' - n) 0) levels (open' - n)) ≡ standing (length (take open' levels) - n) (deep (view rows count levels open'))
  close_deep n p h =
      let l = sound-leveled rows count levels open' s in
      let long = length-take-le open' levels s.deep in
      let d : length (take open' levels) - n ≡ open' - n = omega arith in
      let at = get_or-take open' levels (open' - n) 0 (omega arith) in
      let low = s.below (open' - n) (omega arith) in
      let ls = take-take (open' - n) open' levels (omega arith) in
      let rs = take-take (get_or levels (open' - n) 0) count rows low in
      let cutted = deep-cut (take count rows) (take open' levels) (open' - n) (omega arith) l.rising in
      cc

module _ {A B : Type 0} (f : A → B) where
  pub standing-map : (d : ℕ) (xs : List (Deep A)) → standing d (map_deep f xs) ≡ map_deep f (standing d xs)
  standing-map d [] = refl
  standing-map d (x ∷ xs) = grind (arith, nat_tests, standing-map d xs)

  pub map_deep-append : (xs ys : List (Deep A)) → map_deep f (xs ++ ys) ≡ map_deep f xs ++ map_deep f ys
  map_deep-append [] ys = refl
  map_deep-append (x ∷ xs) ys = ap (λ zs. record { item = f x.item; depth = x.depth } ∷ zs) (map_deep-append xs ys)

  pub length-map_deep : (xs : List (Deep A)) → length (map_deep f xs) ≡ length xs
  length-map_deep [] = refl
  length-map_deep (x ∷ xs) = ap suc (length-map_deep xs)

  pub deep_from-map : (ls : List ℕ) (i : ℕ) (xs : List A) → deep_from ls i (map f xs) ≡ map_deep f (deep_from ls i xs)
  deep_from-map ls i [] = refl
  deep_from-map ls i (x ∷ xs) = ap (λ ys. record { item = f x; depth = depth_at ls i } ∷ ys) (deep_from-map ls (suc i) xs)

  pub deep-map : (s : Scoped A) → deep (record { rows = map f s.rows; levels = s.levels }) ≡ map_deep f (deep s)
  deep-map s = deep_from-map s.levels 0 s.rows

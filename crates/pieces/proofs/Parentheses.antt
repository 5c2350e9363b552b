-- The length of a list agrees with the counts of its parentheses.
use Rattle.std.proofs.Common.{◌≡◌, ℕ, zero, suc, ◌+◌, ◌-◌, ◌<◌, ◌≤◌, Bool, true, false, cond, not, eqb, ◌⊎◌, List, [], ◌∷◌, ◌++◌, length, take, sym, refl, ap, ◌∙◌, subst, inl, inr, arith, eqb-true}
use borrow.Author.Tests.{eqb-false}
use Rattle.chars.specs.Runs.{is_line_end}
use Rattle.pieces.specs.Cuts.{list_length}
use Rattle.pieces.specs.Laws.{count}

-- with n open before: fewer are closed than opened
abbrev pub Ahead : ℕ → Bool → List ℕ → Type 0
Ahead n c s = count 41 c s < n + count 40 c s

-- with n open before: all are closed at the last byte, and no earlier
abbrev pub Closes : ℕ → Bool → List ℕ → Type 0
Closes n c p = ((k : ℕ) → k < length p → Ahead n c (take k p)) × (count 41 c p ≡ n + count 40 c p)

-- with n open before: some stay open
abbrev pub Stays : ℕ → Bool → List ℕ → Type 0
Stays n c p = (k : ℕ) → k ≤ length p → Ahead n c (take k p)

-- the byte b leads from n open ones to m
abbrev Steps : ℕ → Bool → ℕ → ℕ → Bool → Type 0
Steps n c b m d = (z : List ℕ) → count 41 c (b ∷ z) + (m + count 40 d z) ≡ count 41 d z + (n + count 40 c (b ∷ z))

other : (x b : ℕ) (z : List ℕ) → eqb b 59 ≡ false → eqb b x ≡ false → count x false (b ∷ z) ≡ count x false z
other x b z e f =
    ap (λ v. cond v (count x true z) (cond (eqb b x) (suc (count x false z)) (count x false z))) e
    ∙ ap (λ v. cond v (suc (count x false z)) (count x false z)) f

in-comment : (n b : ℕ) → Steps n true b n (not (is_line_end b))
in-comment n b z = refl

semicolon : (n b : ℕ) → eqb b 59 ≡ true → Steps n false b n true
semicolon n b e = subst (λ x. Steps n false x n true) (sym (eqb-true b 59 e)) (λ z. refl)

opening : (n b : ℕ) → eqb b 40 ≡ true → Steps n false b (n + 1) false
opening n b e = subst (λ x. Steps n false x (n + 1) false) (sym (eqb-true b 40 e)) (λ z. omega arith)

closing : (n b : ℕ) → 1 ≤ n → eqb b 41 ≡ true → Steps n false b (n - 1) false
closing n b h e = subst (λ x. Steps n false x (n - 1) false) (sym (eqb-true b 41 e)) (λ z. omega arith)

plain : (n b : ℕ) → eqb b 59 ≡ false → eqb b 40 ≡ false → eqb b 41 ≡ false → Steps n false b n false
plain n b e f g z = omega (arith, other 40 b z e f, other 41 b z e g)

-- one byte more at the front, and one less
module _ (n : ℕ) (c : Bool) (b m : ℕ) (d : Bool) (st : Steps n c b m d) where
  earlier : (p : List ℕ) → 1 ≤ n → ((k : ℕ) → k < length p → Ahead m d (take k p)) → (k : ℕ) → k < suc (length p) → Ahead n c (take k (b ∷ p))
  earlier p pos a zero h = omega arith
  earlier p pos a (suc k) h = omega (arith, st (take k p), a k (omega arith))

  closes-step : (p : List ℕ) → 1 ≤ n → Closes m d p → Closes n c (b ∷ p)
  closes-step p pos (a, e) = (earlier p pos a, omega (arith, st p))

  closes-back : (p : List ℕ) → Closes n c (b ∷ p) → Closes m d p
  closes-back p (a, e) = (λ k h. omega (arith, st (take k p), a (suc k) (omega arith)), omega (arith, st p))

  stays_step : (p : List ℕ) → 1 ≤ n → Stays m d p → Stays n c (b ∷ p)
  stays_step p pos a zero h = omega arith
  stays_step p pos a (suc k) h = omega (arith, st (take k p), a k (omega arith))

  stays_back : (p : List ℕ) → Stays n c (b ∷ p) → Stays m d p
  stays_back p a k h = omega (arith, st (take k p), a (suc k) (omega arith))

-- the first l bytes close the list, or nothing does
abbrev pub Ends : ℕ → Bool → List ℕ → ℕ → Type 0
Ends n c s l = (Closes n c (take l s) × (l ≤ length s)) ⊎ ((l ≡ length s) × Stays n c s)

ends_step : (n : ℕ) (c : Bool) (b m : ℕ) (d : Bool) (s : List ℕ) (l : ℕ) → 1 ≤ n → Steps n c b m d → Ends m d s l → Ends n c (b ∷ s) (suc l)
ends_step n c b m d s l pos st (inl (cl, le)) = inl (closes-step n c b m d st (take l s) pos cl, omega arith)
ends_step n c b m d s l pos st (inr (e, f)) = inr (ap suc e, stays_step n c b m d st s pos f)

at-start : (k : ℕ) → k < 1 → Ahead 1 false (take k (41 ∷ []))
at-start zero h = omega arith
at-start (suc k) h = absurd (omega arith)

last-close : (n b : ℕ) (s : List ℕ) → eqb b 41 ≡ true → eqb n 1 ≡ true → Ends n false (b ∷ s) 1
last-close n b s e f =
    subst (λ m. Ends m false (b ∷ s) 1) (sym (eqb-true n 1 f))
    (subst (λ x. Ends 1 false (x ∷ s) 1) (sym (eqb-true b 41 e)) (inl ((at-start, refl), omega arith)))

two_open : (n : ℕ) → 1 ≤ n → eqb n 1 ≡ false → 1 ≤ n - 1
two_open n pos e = omega (arith, eqb-false n 1 e)

-- what `list_length` says of a byte outside comments, with the byte's tests
abbrev next : ℕ → List ℕ → Bool → Bool → Bool → Bool → ℕ
next n s semi opens closes one =
    cond semi (suc (list_length n true s)) (cond opens (suc (list_length (n + 1) false s)) (cond closes (cond one 1 (suc (list_length (n - 1) false s))) (suc (list_length n false s))))

outside : (n b : ℕ) (s : List ℕ) (semi opens closes one : Bool) → eqb b 59 ≡ semi → eqb b 40 ≡ opens → eqb b 41 ≡ closes → eqb n 1 ≡ one → 1 ≤ n
    → ((m : ℕ) (d : Bool) → 1 ≤ m → Ends m d s (list_length m d s)) → Ends n false (b ∷ s) (next n s semi opens closes one)
outside n b s true opens closes one e f g h pos ih = ends_step n false b n true s _ pos (semicolon n b e) (ih n true pos)
outside n b s false true closes one e f g h pos ih = ends_step n false b (n + 1) false s _ pos (opening n b f) (ih (n + 1) false (omega arith))
outside n b s false false true true e f g h pos ih = last-close n b s g h
outside n b s false false true false e f g h pos ih = ends_step n false b (n - 1) false s _ pos (closing n b pos g) (ih (n - 1) false (two_open n pos h))
outside n b s false false false one e f g h pos ih = ends_step n false b n false s _ pos (plain n b e f g) (ih n false pos)

nothing : (n : ℕ) (c : Bool) → 1 ≤ n → Stays n c []
nothing n c pos zero h = omega arith
nothing n c pos (suc k) h = absurd (omega arith)

pub list_ends : (n : ℕ) (c : Bool) (s : List ℕ) → 1 ≤ n → Ends n c s (list_length n c s)
list_ends n c [] pos = inr (refl, nothing n c pos)
list_ends n true (b ∷ s) pos = ends_step n true b n (not (is_line_end b)) s _ pos (in-comment n b) (list_ends n (not (is_line_end b)) s pos)
list_ends n false (b ∷ s) pos = outside n b s (eqb b 59) (eqb b 40) (eqb b 41) (eqb n 1) refl refl refl refl pos (λ m d h. list_ends m d s h)

-- nothing stands behind the parenthesis that closes the last
closed_all : (n b : ℕ) (p : List ℕ) → eqb b 41 ≡ true → eqb n 1 ≡ true → Closes n false (b ∷ p) → 1 ≡ suc (length p)
closed_all n b [] e f cl = refl
closed_all n b (x ∷ p) e f (a, l) =
    let h = subst (λ m. Ahead m false (b ∷ [])) (eqb-true n 1 f) (a 1 (omega arith)) in
    let k = subst (λ y. Ahead 1 false (y ∷ [])) (eqb-true b 41 e) h in
    absurd (omega arith)

only-outside : (n b : ℕ) (p rest : List ℕ) (semi opens closes one : Bool) → eqb b 59 ≡ semi → eqb b 40 ≡ opens → eqb b 41 ≡ closes → eqb n 1 ≡ one → 1 ≤ n
    → Closes n false (b ∷ p) → ((m : ℕ) (d : Bool) → 1 ≤ m → Closes m d p → list_length m d (p ++ rest) ≡ length p)
    → next n (p ++ rest) semi opens closes one ≡ suc (length p)
only-outside n b p rest true opens closes one e f g h pos cl ih = ap suc (ih n true pos (closes-back n false b n true (semicolon n b e) p cl))
only-outside n b p rest false true closes one e f g h pos cl ih = ap suc (ih (n + 1) false (omega arith) (closes-back n false b (n + 1) false (opening n b f) p cl))
only-outside n b p rest false false true true e f g h pos cl ih = closed_all n b p g h cl
only-outside n b p rest false false true false e f g h pos cl ih =
    ap suc (ih (n - 1) false (two_open n pos h) (closes-back n false b (n - 1) false (closing n b pos g) p cl))
only-outside n b p rest false false false one e f g h pos cl ih = ap suc (ih n false pos (closes-back n false b n false (plain n b e f g) p cl))

-- a list that closes has the length that is measured
pub closes-only : (n : ℕ) (c : Bool) (p rest : List ℕ) → 1 ≤ n → Closes n c p → list_length n c (p ++ rest) ≡ length p
closes-only n c [] rest pos (a, e) = absurd (omega arith)
closes-only n true (b ∷ p) rest pos cl =
    ap suc (closes-only n (not (is_line_end b)) p rest pos (closes-back n true b n (not (is_line_end b)) (in-comment n b) p cl))
closes-only n false (b ∷ p) rest pos cl =
    only-outside n b p rest (eqb b 59) (eqb b 40) (eqb b 41) (eqb n 1) refl refl refl refl pos cl (λ m d h k. closes-only m d p rest h k)

stays_outside : (n b : ℕ) (p : List ℕ) (semi opens closes one : Bool) → eqb b 59 ≡ semi → eqb b 40 ≡ opens → eqb b 41 ≡ closes → eqb n 1 ≡ one → 1 ≤ n
    → Stays n false (b ∷ p) → ((m : ℕ) (d : Bool) → 1 ≤ m → Stays m d p → list_length m d p ≡ length p)
    → next n p semi opens closes one ≡ suc (length p)
stays_outside n b p true opens closes one e f g h pos st ih = ap suc (ih n true pos (stays_back n false b n true (semicolon n b e) p st))
stays_outside n b p false true closes one e f g h pos st ih = ap suc (ih (n + 1) false (omega arith) (stays_back n false b (n + 1) false (opening n b f) p st))
stays_outside n b p false false true true e f g h pos st ih =
    let i = subst (λ m. Ahead m false (b ∷ [])) (eqb-true n 1 h) (st 1 (omega arith)) in
    let k = subst (λ y. Ahead 1 false (y ∷ [])) (eqb-true b 41 g) i in
    absurd (omega arith)
stays_outside n b p false false true false e f g h pos st ih =
    ap suc (ih (n - 1) false (two_open n pos h) (stays_back n false b (n - 1) false (closing n b pos g) p st))
stays_outside n b p false false false one e f g h pos st ih = ap suc (ih n false pos (stays_back n false b n false (plain n b e f g) p st))

-- a list that never closes is measured to the end
pub stays_only : (n : ℕ) (c : Bool) (p : List ℕ) → 1 ≤ n → Stays n c p → list_length n c p ≡ length p
stays_only n c [] pos st = refl
stays_only n true (b ∷ p) pos st =
    ap suc (stays_only n (not (is_line_end b)) p pos (stays_back n true b n (not (is_line_end b)) (in-comment n b) p st))
stays_only n false (b ∷ p) pos st =
    stays_outside n b p (eqb b 59) (eqb b 40) (eqb b 41) (eqb n 1) refl refl refl refl pos st (λ m d h k. stays_only m d p h k)

-- The first parenthesis that opens a list too deep.
use Rattle.std.proofs.Common.{◌≡◌, ℕ, suc, ◌<◌, Bool, true, false, cond, ◌&&◌, eqb, List, [], ◌∷◌, length, get_or, take, Some, None, Option, refl, subst, arith, eqb-true}
use mathlib.Core.Bool.{false≢true}
use Rattle.tokens.specs.declared.Kind.{Kind}
use Rattle.tokens.specs.declared.Kind.TheVariants.{Opening, Closing, Name, Keyword, Numeral, Literal}
use Rattle.tokens.specs.declared.Token.{Token}
use Rattle.forms.specs.Forms.{is_opening, open_behind, deepest, no_token}
use Rattle.forms.specs.Laws.{TooDeep, open_after}

-- The same with so many open at the front.
record DeepFrom (d : ℕ) (ts : List Token) (p : ℕ) : Type 0 where
  index : ℕ
  within : index < length ts
  place : p ≡ (get_or ts index no_token).from
  opens : (get_or ts index no_token).kind ≡ Opening
  around : open_after d (take index ts) ≡ 64

abbrev AtDeep : (ℕ → Type 0) → Option ℕ → Type 0
AtDeep P None = Unit {0}
AtDeep P (Some p) = P p

is-opening : (k : Kind) → is_opening k ≡ true → k ≡ Opening
is-opening Opening e = refl
is-opening Closing e = absurd (false≢true e)
is-opening Name e = absurd (false≢true e)
is-opening Keyword e = absurd (false≢true e)
is-opening (Numeral n) e = absurd (false≢true e)
is-opening (Literal w v) e = absurd (false≢true e)

here : (t : Token) (ts : List Token) (d : ℕ) → is_opening t.kind ≡ true → eqb d 64 ≡ true → DeepFrom d (t ∷ ts) t.from
here t ts d e f = record { index = 0; within = omega arith; place = refl; opens = is-opening t.kind e; around = eqb-true d 64 f }

later : (t : Token) (ts : List Token) (d : ℕ) (o : Option ℕ) → AtDeep (DeepFrom (open_behind t.kind d) ts) o → AtDeep (DeepFrom d (t ∷ ts)) o
later t ts d None w = tt
later t ts d (Some p) w = record { index = suc w.index; within = omega (arith, w.within); place = w.place; opens = w.opens; around = w.around }

one : (t : Token) (ts : List Token) (d : ℕ) (v w : Bool) → is_opening t.kind ≡ v → eqb d 64 ≡ w → (o : Option ℕ) → AtDeep (DeepFrom (open_behind t.kind d) ts) o → AtDeep (DeepFrom d (t ∷ ts)) (cond (v && w) (Some t.from) o)
one t ts d true true e f o r = here t ts d e f
one t ts d true false e f o r = later t ts d o r
one t ts d false w e f o r = later t ts d o r

deep_from_lem : (ts : List Token) (d : ℕ) → AtDeep (DeepFrom d ts) (deepest d ts)
deep_from_lem [] d = tt
deep_from_lem (t ∷ ts) d = one t ts d (is_opening t.kind) (eqb d 64) refl refl (deepest (open_behind t.kind d) ts) (deep_from_lem ts (open_behind t.kind d))

pub too_deep : (ts : List Token) (p : ℕ) → deepest 0 ts ≡ Some p → TooDeep ts p
too_deep ts p e =
    let w : DeepFrom 0 ts p = subst (AtDeep (DeepFrom 0 ts)) e (deep_from_lem ts 0) in
    record { index = w.index; within = w.within; place = w.place; opens = w.opens; around = w.around }

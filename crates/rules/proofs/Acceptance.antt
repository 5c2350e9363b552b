-- What it means that no row of the table applies, and that one does.
use Rattle.std.proofs.Common.{◌≡◌, ℕ, cond, ◌&&◌, ◌||◌, List, [], ◌∷◌, Some, None, Option, refl, ap, ◌∙◌, arith}
use Rattle.std.proofs.lemmas.Bool.{ne_eqb, eq-eqb}
use Rattle.rules.specs.Records.{Request, obeyed}
use Rattle.rules.specs.Steps.{State, Given}
use Rattle.rules.specs.Table.{Row, small_page, long_text, after_exit, unexpected_byte, broken_number, long_name, no_closed_list, nested_too_deep, outside_the_form, wrong_mode, unknown_logic, wrong_depth, numbered, applies, table, or_next, first, refusal, turned, is_exit, step}
use Rattle.rules.specs.Laws.{request}
use Rattle.rules.proofs.Bridge.{learn-refused}

-- a refused command leaves an equal state
pub refused-same : (s : State) (g : Given) → ((refusal s g).0 ≡ 0 → ⊥) → step s g ≡ s
refused-same s g h = learn-refused s g.text (refusal s g).0 (ne_eqb (refusal s g).0 0 h)

-- the state after an accepted request
abbrev pub moved : State → Request → State
moved s q = record { stands = obeyed s.stands q; mode = turned s.mode q; ended = s.ended || is_exit q }

pub accepted_moves : (s : State) (g : Given) → (refusal s g).0 ≡ 0 → step s g ≡ moved s (request g.text)
accepted_moves s g e = ap (λ b. record { stands = cond b (obeyed s.stands (request g.text)) s.stands; mode = cond b (turned s.mode (request g.text)) s.mode; ended = s.ended || (b && is_exit (request g.text)) }) (eq-eqb (refusal s g).0 0 e)

-- no row of the list applies
abbrev pub NoneOf : List Row → State → Given → Type 0
NoneOf [] s g = Unit {0}
NoneOf (r ∷ rs) s g = (applies r s g ≡ None) × NoneOf rs s g

not_zero : (r : Row) → numbered r ≡ 0 → ⊥
not_zero small_page e = omega arith
not_zero long_text e = omega arith
not_zero after_exit e = omega arith
not_zero unexpected_byte e = omega arith
not_zero broken_number e = omega arith
not_zero long_name e = omega arith
not_zero no_closed_list e = omega arith
not_zero nested_too_deep e = omega arith
not_zero outside_the_form e = omega arith
not_zero wrong_mode e = omega arith
not_zero unknown_logic e = omega arith
not_zero wrong_depth e = omega arith

clear : (o : Option ℕ) (r : Row) (rest : ℕ × ℕ) → (or_next o (numbered r) rest).0 ≡ 0 → (o ≡ None) × (rest.0 ≡ 0)
clear None r rest e = (refl, e)
clear (Some p) r rest e = absurd (not_zero r e)

none_of : (rs : List Row) (s : State) (g : Given) → (first rs s g).0 ≡ 0 → NoneOf rs s g
none_of [] s g e = tt
none_of (r ∷ rs) s g e = let c = clear (applies r s g) r (first rs s g) e in (c.0, none_of rs s g c.1)

first-none : (rs : List Row) (s : State) (g : Given) → NoneOf rs s g → first rs s g ≡ (0, 0)
first-none [] s g n = refl
first-none (r ∷ rs) s g n = ap (λ o. or_next o (numbered r) (first rs s g)) n.0 ∙ first-none rs s g n.1

pub accepted-none : (s : State) (g : Given) → (refusal s g).0 ≡ 0 → NoneOf table s g
unfolding refusal
accepted-none s g e = none_of table s g e

pub none-accepted : (s : State) (g : Given) → NoneOf table s g → refusal s g ≡ (0, 0)
unfolding refusal
none-accepted s g n = first-none table s g n

-- After a stretch the state is the one before it, in mode assert.
use Rattle.std.proofs.Common.{◌≡◌, ℕ, suc, ◌+◌, ◌-◌, ◌<◌, Bool, true, false, not, ◌||◌, ltb, List, [], ◌∷◌, Some, None, sym, refl, ap, ◌∙◌, subst, ⊎_elim, true≢false, arith}
use Rattle.std.proofs.lemmas.Bool.{cases_eq, ltb-false, le-ltb}
use Rattle.rules.specs.declared.Mode.TheVariants.{Assert}
use Rattle.rules.specs.Records.{Request, set_logic, push, pop, reason, reset, exit, unsupported, asked}
use Rattle.rules.specs.Steps.{State, is_start, Given}
use Rattle.rules.specs.Table.{misplaced, at_start, at_depth, at_logic, at_byte, at_number, at_name, at_list, at_nesting, at_form, refusal, step, run}
use Rattle.rules.specs.Laws.{request, push_zero}
use Rattle.rules.proofs.Walks.{Along}
use Rattle.rules.proofs.Acceptance.{refused-same, moved, accepted_moves, accepted-none, none-accepted}
use Rattle.rules.proofs.PushZero.{push_zero_read}

-- ## inside a stretch

pub record Inside (o s : State) : Type 0 where
  pub logic : s.stands.logic ≡ o.stands.logic
  pub live : s.ended ≡ false
  pub going : is_start s.mode ≡ false
  pub above : o.stands.depth < s.stands.depth

or_no : (b : Bool) → b ≡ false → (b || false) ≡ false
or_no true e = e
or_no false e = refl

not_both : (b : Bool) → b ≡ false → not b ≡ false → ⊥
not_both true e f = true≢false e
not_both false e f = true≢false f

inside_moved : (o s : State) (q : Request) → Inside o s → o.stands.depth < (moved s q).stands.depth → misplaced s.mode q ≡ false → (q ≡ exit → ⊥) → Inside o (moved s q)
inside_moved o s (set_logic l p) i a w x = absurd (not_both (is_start s.mode) i.going w)
inside_moved o s (push k p) i a w x = record { logic = i.logic; live = or_no _ i.live; going = refl; above = a }
inside_moved o s (pop k p) i a w x = record { logic = i.logic; live = or_no _ i.live; going = refl; above = a }
inside_moved o s reason i a w x = absurd (true≢false w)
inside_moved o s reset i a w x = absurd (omega arith)
inside_moved o s exit i a w x = absurd (x refl)
inside_moved o s unsupported i a w x = record { logic = i.logic; live = or_no _ i.live; going = i.going; above = a }

at_start_none : (b : Bool) → at_start b ≡ None → b ≡ false
at_start_none true e = let z : ◌≡◌ {A = ℕ} 0 1 = cc in absurd (omega arith)
at_start_none false e = refl

-- what the law says of each command inside
abbrev pub Kept : State → State → Given → Type 0
Kept o s g = (o.stands.depth < (step s g).stands.depth) × ((refusal s g).0 ≡ 0 → request g.text ≡ exit → ⊥)

inside-step : (o s : State) (g : Given) → Kept o s g → Inside o s → Inside o (step s g)
inside-step o s g k i =
    ⊎_elim
    (λ e.
    let q = accepted_moves s g e in
    let n = accepted-none s g e in
    subst (Inside o) (sym q) (inside_moved o s (request g.text) i (subst (λ t. o.stands.depth < t.stands.depth) q k.0) (at_start_none _ n.1.1.1.1.1.1.1.1.1.0) (k.1 e)))
    (λ ne. subst (Inside o) (sym (refused-same s g ne)) i)
    (cases_eq (refusal s g).0 0)

inside-run : (o s : State) (gs : List Given) → Along (Kept o) s gs → Inside o s → Inside o (run s gs)
inside-run o s [] k i = i
inside-run o s (g ∷ gs) k i = inside-run o (step s g) gs k.1 (inside-step o s g k.0 i)

-- ## its two ends

abbrev zero_push : Given → Given
zero_push g = record { text = push_zero; room = g.room }

zero_request : request push_zero ≡ push 0 6
zero_request = ap (asked push_zero) push_zero_read

shallow : (d k p : ℕ) → at_depth d (push k p) ≡ None → at_depth d (push 0 6) ≡ None
shallow d k p e = go (ltb 63 (d + k)) refl e
  where
    go : (b : Bool) → ltb 63 (d + k) ≡ b → mathlib.Core.Bool.cond b (Some p) None ≡ None → at_depth d (push 0 6) ≡ None
    go true h f = let z : ◌≡◌ {A = ℕ} 0 1 = cc in absurd (omega arith)
    go false h f = let le = ltb-false 63 (d + k) h in ap (λ b. mathlib.Core.Bool.cond b (Some 6) None) (le-ltb 63 (d + 0) (omega arith))

zero_accepted : (s : State) (g : Given) (k p : ℕ) → request g.text ≡ push k p → (refusal s g).0 ≡ 0 → refusal s (zero_push g) ≡ (0, 0)
zero_accepted s g k p e a =
    let n = accepted-none s g a in
    let later = n.1.1.1.1.1.1.1.1.1 in
    none-accepted s (zero_push g) (
      n.0,
      (
        refl,
        (
          n.1.1.0,
          (
            ap at_byte push_zero_read,
            (
              ap at_number push_zero_read,
              (
                ap at_name push_zero_read,
                (
                  ap at_list push_zero_read,
                  (
                    ap at_nesting push_zero_read,
                    (
                      ap at_form push_zero_read,
                      (
                        ap (λ q. at_start (misplaced s.mode q)) zero_request ∙ sym (ap (λ q. at_start (misplaced s.mode q)) e) ∙ later.0,
                        (
                          ap at_logic zero_request,
                          (
                            ap (at_depth s.stands.depth) zero_request ∙ shallow s.stands.depth k p (sym (ap (at_depth s.stands.depth) e) ∙ later.1.1.0),
                            tt,
                          ),
                        ),
                      ),
                    ),
                  ),
                ),
              ),
            ),
          ),
        ),
      ),
    )

pub across : (o : State) (first last : Given) (inside : List Given) (k p j q : ℕ)
    → (refusal o first).0 ≡ 0 → request first.text ≡ push (suc k) p
    → Along (Kept o) (step o first) inside
    → (refusal (run (step o first) inside) last).0 ≡ 0 → request last.text ≡ pop j q
    → (step (run (step o first) inside) last).stands.depth ≡ o.stands.depth
    → step (run (step o first) inside) last ≡ step o (record { text = push_zero; room = first.room })
across o first last inside k p j q a e kept b f back =
    let first_step : step o first ≡ moved o (push (suc k) p) = accepted_moves o first a ∙ ap (moved o) e in
    let live : o.ended ≡ false = at_start_none o.ended (accepted-none o first a).1.1.0 in
    let start : Inside o (step o first) = subst (Inside o) (sym first_step) (record { logic = refl; live = or_no _ live; going = refl; above = omega arith }) in
    let s = run (step o first) inside in
    let i : Inside o s = inside-run o (step o first) inside kept start in
    let last_step : step s last ≡ moved s (pop j q) = accepted_moves s last b ∙ ap (moved s) f in
    let d : s.stands.depth - j ≡ o.stands.depth = sym (ap (λ t. t.stands.depth) last_step) ∙ back in
    let zero-step : step o (zero_push first) ≡ moved o (push 0 6) = accepted_moves o (zero_push first) (ap (λ x. x.0) (zero_accepted o first (suc k) p e a)) ∙ ap (moved o) zero_request in
    let d0 : o.stands.depth ≡ o.stands.depth + 0 = omega arith in
    let n : (s.ended || false) ≡ (o.ended || false) = or_no _ i.live ∙ sym (or_no _ live) in
    let l = i.logic in
    last_step ∙ (λ x. record { stands = record { logic = l x; depth = (d ∙ d0) x }; mode = Assert; ended = n x }) ∙ sym zero-step

-- What the session does test by test is what the refusal table says.
use Rattle.std.proofs.Common.{◌≡◌, ℕ, ◌+◌, Bool, true, false, cond, not, ◌&&◌, ◌||◌, eqb, ltb, List, [], length, Some, None, Ok, Err, Option, Result, sym, refl, ap, ◌∙◌, subst}
use Rattle.tokens.specs.declared.TokenFault.{TokenFault}
use Rattle.tokens.specs.declared.Token.{Token}
use Rattle.tokens.specs.Lexing.{tokens}
use Rattle.tokens.specs.declared.TokenFault.TheVariants.{Unexpected, Malformed, TooLong}
use Rattle.forms.specs.declared.FormFault.{FormFault}
use Rattle.forms.specs.Forms.{formed}
use Rattle.forms.specs.declared.FormFault.TheVariants.{Unclosed, Nested, Outside}
use Rattle.forms.specs.declared.Command.{Command}
use Rattle.theory.specs.declared.Logic.{Logic}
use Rattle.rules.specs.declared.Mode.{Mode}
use Rattle.rules.specs.declared.Fault.{Fault}
use Rattle.rules.specs.declared.Fault.TheVariants as faults
use Rattle.rules.specs.declared.Said.{Said}
use Rattle.rules.specs.declared.Reply.{Reply}
use Rattle.rules.specs.Records.{Record, Request, set_logic, push, pop, reason, reset, exit, unsupported, request_of, through, reading, asked, obeyed}
use Rattle.rules.specs.Steps.{State, new_state, is_start, refused, changed, executed, acted_on, acted, Given, Answer, printed, spoken, Replied}
use Rattle.rules.specs.Table.{misplaced, at_start, at_byte, at_number, at_name, at_list, at_nesting, at_form, at_logic, at_depth, or_next, refusal, word, complained, response, answer, turned, is_exit, learn, step}

abbrev live : Record → Mode → State
live r m = record { stands = r; mode = m; ended = false }

-- The state and the answer after a request that is refused with f, or accepted at (0, 0).
abbrev outcome : State → Request → ℕ × ℕ → State × Answer
outcome s q f = (
  record {
    stands = cond (eqb f.0 0) (obeyed s.stands q) s.stands;
    mode = cond (eqb f.0 0) (turned s.mode q) s.mode;
    ended = s.ended || (eqb f.0 0 && is_exit q);
  },
  record { number = f.0; place = f.1; bytes = cond (eqb f.0 0) (word q) (complained f) },
)

-- The rows of the table that look at the mode and at what stands.
abbrev chain : State → Request → ℕ × ℕ
chain s q = or_next (at_start (misplaced s.mode q)) 30 (or_next (at_logic q) 31 (or_next (at_depth s.stands.depth q) 32 (0, 0)))

abbrev pair_of : State × Result Said Fault → State × Answer
pair_of x = (x.0, spoken x.1)

core : (r : Record) (m : Mode) (q : Request) → outcome (live r m) q (chain (live r m) q) ≡ pair_of (executed (live r m) q)
core r m (set_logic l p) = go (is_start m) l
  where
    go : (b : Bool) (l : Option Logic) → outcome (live r m) (set_logic l p) (or_next (at_start (not b)) 30 (or_next (at_logic (set_logic l p)) 31 (0, 0))) ≡ pair_of (cond b (Rattle.rules.specs.Steps.logic_set (live r m) l p) (refused (live r m) faults.Mode))
    go true None = refl
    go true (Some l) = refl
    go false None = refl
    go false (Some l) = refl
core r m (push k p) = go (is_start m) (ltb 63 (r.depth + k))
  where
    go : (a b : Bool) → outcome (live r m) (push k p) (or_next (at_start a) 30 (or_next (cond b (Some p) None) 32 (0, 0))) ≡ pair_of (cond a (refused (live r m) faults.Mode) (cond b (refused (live r m) (faults.Depth p)) (changed (live r m) (push k p))))
    go true b = refl
    go false true = refl
    go false false = refl
core r m (pop k p) = go (is_start m) (ltb r.depth k)
  where
    go : (a b : Bool) → outcome (live r m) (pop k p) (or_next (at_start a) 30 (or_next (cond b (Some p) None) 32 (0, 0))) ≡ pair_of (cond a (refused (live r m) faults.Mode) (cond b (refused (live r m) (faults.Depth p)) (changed (live r m) (pop k p))))
    go true b = refl
    go false true = refl
    go false false = refl
core r m reason = refl
core r m reset = refl
core r m exit = refl
core r m unsupported = refl

-- number and place tell the step and the answer
by_refusal : (s : State) (g : Given) (f : ℕ × ℕ) → refusal s g ≡ f → (step s g ≡ learn s g.text f.0) × (answer s g ≡ record { number = f.0; place = f.1; bytes = response g f })
by_refusal s g f e = (ap (λ x. learn s g.text x.0) e, ap (λ x. record { number = x.0; place = x.1; bytes = response g x }) e)

-- reading finds faults of tokens and of forms only
Readable : Result Command Fault → Type 0
Readable (Ok c) = Unit {0}
Readable (Err faults.Page) = ⊥
Readable (Err faults.Text) = ⊥
Readable (Err faults.Ended) = ⊥
Readable (Err (faults.Token f)) = Unit {0}
Readable (Err (faults.Form f)) = Unit {0}
Readable (Err faults.Mode) = ⊥
Readable (Err (faults.Logic p)) = ⊥
Readable (Err (faults.Depth p)) = ⊥

readable : (text : List ℕ) → Readable (reading text)
unfolding reading Readable
readable text = by_tokens (tokens text)
  where
    by_form : (r : Result Command FormFault) → Readable (through faults.Form r Ok)
    by_form (Ok c) = tt
    by_form (Err f) = tt

    by_tokens : (r : Result (List Token) TokenFault) → Readable (through faults.Token r (λ ts. through faults.Form (formed text ts) Ok))
    by_tokens (Ok ts) = by_form (formed text ts)
    by_tokens (Err f) = tt

-- the whole table, with its first tests and what was read given
abbrev tabled : Bool → Bool → Bool → List ℕ → Result Command Fault → State → ℕ × ℕ
tabled small long ended text rd s =
    or_next (at_start small) 1 (or_next (at_start long) 2 (or_next (at_start ended) 3
    (or_next (at_byte rd) 10 (or_next (at_number rd) 12 (or_next (at_name rd) 13 (or_next (at_list rd) 20 (or_next (at_nesting rd) 21 (or_next (at_form rd) 22
    (chain s (asked text rd))))))))))

whole : (r : Record) (m : Mode) (long ended : Bool) (text : List ℕ) (rd : Result Command Fault) → Readable rd
    → (s : State) → s ≡ record { stands = r; mode = m; ended = ended }
    → outcome s (asked text rd) (tabled false long ended text rd s) ≡ pair_of (cond long (refused s faults.Text) (cond ended (refused s faults.Ended) (acted_on s text rd)))
unfolding Readable
whole r m long ended text rd h s e = subst (λ t. outcome t (asked text rd) (tabled false long ended text rd t) ≡ pair_of (cond long (refused t faults.Text) (cond ended (refused t faults.Ended) (acted_on t text rd)))) (sym e) (go long ended rd h)
  where
    go : (long ended : Bool) (rd : Result Command Fault) → Readable rd → outcome (record { stands = r; mode = m; ended = ended }) (asked text rd) (tabled false long ended text rd (record { stands = r; mode = m; ended = ended })) ≡ pair_of (cond long (refused (record { stands = r; mode = m; ended = ended }) faults.Text) (cond ended (refused (record { stands = r; mode = m; ended = ended }) faults.Ended) (acted_on (record { stands = r; mode = m; ended = ended }) text rd)))
    go true true rd h = refl
    go true false rd h = refl
    go false true rd h = refl
    go false false (Ok c) h = core r m (request_of text c)
    go false false (Err faults.Page) h = absurd h
    go false false (Err faults.Text) h = absurd h
    go false false (Err faults.Ended) h = absurd h
    go false false (Err (faults.Token (Unexpected p))) h = refl
    go false false (Err (faults.Token (Malformed p))) h = refl
    go false false (Err (faults.Token (TooLong p))) h = refl
    go false false (Err (faults.Form (Unclosed p))) h = refl
    go false false (Err (faults.Form (Nested p))) h = refl
    go false false (Err (faults.Form (Outside p))) h = refl
    go false false (Err faults.Mode) h = absurd h
    go false false (Err (faults.Logic p)) h = absurd h
    go false false (Err (faults.Depth p)) h = absurd h

refusal_is : (s : State) (g : Given) (b : Bool) → ltb g.room 8192 ≡ b → refusal s g ≡ tabled b (ltb 4096 (length g.text)) s.ended g.text (reading g.text) s
unfolding refusal
refusal_is s g b e = ap (λ x. tabled x (ltb 4096 (length g.text)) s.ended g.text (reading g.text) s) e

both_parts : (x y : State × Answer) → x ≡ y → (x.0 ≡ y.0) × (x.1 ≡ y.1)
both_parts x y e = (ap (λ z. z.0) e, ap (λ z. z.1) e)

-- on a page that is large enough
pub acted-step : (s : State) (g : Given) → ltb g.room 8192 ≡ false → (step s g ≡ (acted s g.text).0) × (answer s g ≡ spoken (acted s g.text).1)
acted-step s g e =
    both_parts (outcome s (asked g.text (reading g.text)) (refusal s g)) (pair_of (acted s g.text))
    (ap (outcome s (asked g.text (reading g.text))) (refusal_is s g false e) ∙ whole s.stands s.mode (ltb 4096 (length g.text)) s.ended g.text (reading g.text) (readable g.text) s refl)

or_false : (a b : Bool) → (a || (false && b)) ≡ a
or_false true b = refl
or_false false b = refl

-- a refused command leaves the situation as it was
pub learn-refused : (s : State) (text : List ℕ) (n : ℕ) → eqb n 0 ≡ false → learn s text n ≡ s
learn-refused s text n e =
    ap (λ b. record { stands = cond b (obeyed s.stands (asked text (reading text))) s.stands; mode = cond b (turned s.mode (asked text (reading text))) s.mode; ended = s.ended || (b && is_exit (asked text (reading text))) }) e
    ∙ (λ i. record { stands = s.stands; mode = s.mode; ended = or_false s.ended (is_exit (asked text (reading text))) i })

-- on one that is too small
pub small_step : (s : State) (g : Given) → ltb g.room 8192 ≡ true → (step s g ≡ s) × (answer s g ≡ record { number = 1; place = 0; bytes = [] })
small_step s g e = let x = by_refusal s g (1, 0) (refusal_is s g true e) in (x.0 ∙ learn-refused s g.text 1 refl, x.1)

pub replied_by : {page page' : List ℕ} {r : Reply} (a b : Answer) → a ≡ b → Replied a page page' r → Replied b page page' r
replied_by {page} {page'} {r} a b e h = subst (λ x. Replied x page page' r) e h

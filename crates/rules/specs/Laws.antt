-- The laws of a session over whole runs, told by what a host sees: texts, numbers, places and bytes.
use Rattle.std.specs.Prelude.{◌≡◌, ℕ, suc, ◌<◌, Bool, true, false, List, [], ◌∷◌, ◌++◌, codes, ◌≢◌}
use Rattle.rules.specs.Records.{Record, new_record, Request, push, pop, reset, exit, reading, asked, feed}
use Rattle.rules.specs.declared.Reply.{Reply}
use Rattle.rules.specs.Steps.{State, new_state, Given, Answer, Replied}
use Rattle.rules.specs.Table.{refusal, learn, run, session}

-- How a session behaves: what it answers to a command, when the commands of the list, oldest first, and nothing else were given before it.
abbrev pub Behaviour : Type 0
Behaviour = List Given → Given → Answer

abbrev pub answers_after : Behaviour → List Given → List Given → List Answer
answers_after b earlier [] = []
answers_after b earlier (g ∷ gs) = b earlier g ∷ answers_after b (earlier ++ g ∷ []) gs

-- The answers to a list of commands that are given to a new session.
abbrev pub answers : Behaviour → List Given → List Answer
answers b gs = answers_after b [] gs

-- The record after some commands: fed with each one's text and number.
abbrev pub fed : Record → List Given → List Answer → Record
fed r [] xs = r
fed r (g ∷ gs) [] = r
fed r (g ∷ gs) (a ∷ xs) = fed (feed r g.text a.number) gs xs

abbrev pub record_after : Behaviour → List Given → Record
record_after b gs = fed new_record gs (answers b gs)

-- The situation after some commands, told by their texts and numbers.
abbrev pub learnt : State → List Given → List Answer → State
learnt s [] xs = s
learnt s (g ∷ gs) [] = s
learnt s (g ∷ gs) (a ∷ xs) = learnt (learn s g.text a.number) gs xs

abbrev pub situation : Behaviour → List Given → State
situation b gs = learnt new_state gs (answers b gs)

-- What a text asks.
abbrev pub request : List ℕ → Request
request text = asked text (reading text)

abbrev pub Accepted : Answer → Type 0
Accepted a = a.number ≡ 0

abbrev pub Refused : Answer → Type 0
Refused a = a.number ≡ 0 → ⊥

-- Each command of the list, given in turn after the earlier ones, is as P says.
abbrev pub Throughout : (List Given → Given → Type 0) → List Given → List Given → Type 0
Throughout P earlier [] = Unit {0}
Throughout P earlier (g ∷ gs) = P earlier g × Throughout P (earlier ++ g ∷ []) gs

-- What is left of a list when marks strike: `true` keeps and `false` strikes; past the marks all is kept.
abbrev pub left : {A : Type 0} → List Bool → List A → List A
left [] xs = xs
left (k ∷ ks) [] = []
left (true ∷ ks) (x ∷ xs) = x ∷ left ks xs
left (false ∷ ks) (x ∷ xs) = left ks xs

-- The marks strike refused commands only.
abbrev pub OnlyRefused : List Bool → List Answer → Type 0
OnlyRefused [] xs = Unit {0}
OnlyRefused (k ∷ ks) [] = Unit {0}
OnlyRefused (true ∷ ks) (a ∷ xs) = OnlyRefused ks xs
OnlyRefused (false ∷ ks) (a ∷ xs) = Refused a × OnlyRefused ks xs

abbrev pub push_zero : List ℕ
push_zero = codes "(push 0)"

module _ (b : Behaviour) where
  -- After the command the depth is greater than d; and the command is no accepted `reset` or `exit`.
  pub record StaysAbove (d : ℕ) (earlier : List Given) (g : Given) : Type 0 where
    pub above : d < (record_after b (earlier ++ g ∷ [])).depth
    pub no_reset : Accepted (b earlier g) → request g.text ≢ reset
    pub no_exit : Accepted (b earlier g) → request g.text ≢ exit

  -- A stretch after some commands: from an accepted push of at least 1, by way of the commands inside, to the accepted pop back to the depth before it.
  pub record Stretch (before : List Given) (first : Given) (inside : List Given) (last : Given) : Type 0 where
    pub opens : Accepted (b before first) × ((k : ℕ) × ((p : ℕ) × (request first.text ≡ push (suc k) p)))
    pub between : Throughout (StaysAbove (record_after b before).depth) (before ++ first ∷ []) inside
    pub closes : Accepted (b (before ++ first ∷ inside) last) × ((k : ℕ) × ((p : ℕ) × (request last.text ≡ pop k p)))
    pub back : (record_after b (before ++ first ∷ inside ++ last ∷ [])).depth ≡ (record_after b before).depth

  pub record Laws : Type 0 where
    -- Number and place of each answer are those of the first row of the refusal table that applies in the situation that the earlier texts and numbers leave.
    pub table : (earlier : List Given) (g : Given) → ((b earlier g).number ≡ (refusal (situation b earlier) g).0) × ((b earlier g).place ≡ (refusal (situation b earlier) g).1)
    -- With any refused commands struck, every remaining answer is the same.
    pub strike : (all : List Given) (marks : List Bool) → OnlyRefused marks (answers b all) → answers b (left marks all) ≡ left marks (answers b all)
    -- With any stretch replaced by `(push 0)` on a page as large as its first, every later answer is the same.
    pub stretch : (before inside later : List Given) (first last : Given) → Stretch before first inside last
        → answers_after b (before ++ first ∷ inside ++ last ∷ []) later ≡ answers_after b (before ++ record { text = push_zero; room = first.room } ∷ []) later

-- What a call did that found the state s, was given g and left the state s' is what a session does with g after any earlier commands that lead to s.
abbrev pub InTurn : State → Given → List ℕ → List ℕ → Reply → State → Type 0
InTurn s g page page' r s' = (earlier : List Given) → s ≡ run new_state earlier → Replied (session earlier g) page page' r × (s' ≡ run new_state (earlier ++ g ∷ []))

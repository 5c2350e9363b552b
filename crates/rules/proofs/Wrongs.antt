-- Each wrong session contradicts the laws on a short list of commands.
use Rattle.std.proofs.Common.{◌≡◌, ℕ, [], ◌∷◌, codes, arith}
use Rattle.chars.specs.Classes as chars
use Rattle.words.specs.Words as words
use Rattle.tokens.specs.Numbers as numbers
use Rattle.tokens.specs.Lexing as lexing
use Rattle.grammar.specs.Machine as machine
use Rattle.rules.specs.Records.{reading}
use Rattle.rules.specs.Steps.{Given}
use Rattle.rules.specs.Table.{refusal}
use Rattle.rules.specs.Wrong.{surplus, refusing, forgetful, Fails, told}

abbrev logic : Given
logic = told (codes "(set-logic QF_BV)")

abbrev push-one : Given
push-one = told (codes "(push 1)")

abbrev pop_two : Given
pop_two = told (codes "(pop 2)")

abbrev pop-one : Given
pop-one = told (codes "(pop 1)")

-- after a surplus pop the level still stands, so the next pop is accepted
pub surplus_fails : Fails surplus
unfolding refusal reading chars.class_of words.same words.word_of numbers.numeral numbers.literal lexing.tokens_from machine.replacement
surplus_fails laws = let e : ◌≡◌ {A = ℕ} 32 0 = (laws.table (logic ∷ push-one ∷ pop_two ∷ []) pop-one).0 in omega arith

-- a logic is accepted
pub refusing_fails : Fails refusing
unfolding refusal reading chars.class_of words.same words.word_of numbers.numeral numbers.literal lexing.tokens_from machine.replacement
refusing_fails laws = let e : ◌≡◌ {A = ℕ} 30 0 = (laws.table [] logic).0 in omega arith

-- a second logic is refused
pub forgetful_fails : Fails forgetful
unfolding refusal reading chars.class_of words.same words.word_of numbers.numeral numbers.literal lexing.tokens_from machine.replacement
forgetful_fails laws = let e : ◌≡◌ {A = ℕ} 0 30 = (laws.table (logic ∷ []) logic).0 in omega arith

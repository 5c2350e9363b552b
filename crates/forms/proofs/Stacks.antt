-- The stack of items lies in a table from its top to the table's end.
use Rattle.std.proofs.Common.{◌≡◌, ℕ, ◌+◌, ◌<◌, ◌≤◌, List, [], ◌∷◌, length, get_or, drop, set, ap, ◌∙◌, arith, Err}
use Rattle.std.proofs.lemmas.List.{drop_more, drop_all, drop-set, drop-set-add}
use Rattle.grammar.specs.declared.items.Item.{Item}
use Rattle.grammar.specs.declared.items.Misfit.TheVariants.{Short}
use Rattle.tokens.specs.declared.Token.{Token}
use Rattle.grammar.specs.Marks.{marks}
use Rattle.grammar.specs.Machine.{at_end, run}

-- the two items that a reading begins with
pub two_last : (items : List Item) (n : ℕ) (a b : Item) → length items ≡ n + 2 → drop n (set (set items n a) (n + 1) b) ≡ a ∷ b ∷ []
two_last items n a b h =
    let one : drop n (set items n a) ≡ a ∷ drop (n + 1) items = drop-set items n a (omega arith) in
    let rest : drop (n + 1) items ≡ get_or items (n + 1) a ∷ drop (n + 1 + 1) items = drop_more items (n + 1) a (omega arith) in
    let none : drop (n + 1 + 1) items ≡ [] = drop_all (n + 1 + 1) items (omega arith) in
    drop-set-add n (set items n a) 1 b ∙ ap (λ l. set l 1 b) (one ∙ ap (λ l. a ∷ l) (rest ∙ ap (λ l. get_or items (n + 1) a ∷ l) none))

module _ (text : List ℕ) (ts : List Token) (i : ℕ) (stack : List Item) where
  pub end_run : length ts ≤ i → run stack (marks text (drop i ts)) ≡ at_end stack
  end_run h = ap (λ l. run stack (marks text l)) (drop_all i ts h)

pub something_left : (items : List Item) (top : ℕ) (d : Item) → top < length items → at_end (drop top items) ≡ Err Short
something_left items top d h = ap at_end (drop_more items top d h)

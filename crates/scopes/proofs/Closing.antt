-- What closing makes of the tables.
use Rattle.std.proofs.Common.{◌≡◌, ℕ, ◌-◌, ◌<◌, ◌≤◌, List, get_or, Ok, arith}
use Rattle.std.proofs.lemmas.List.{get_or-take, length-take-le, take-take}
use Rattle.scopes.specs.Stacks.{Sound, depth, view, closed}
use Rattle.scopes.proofs.Restoring.{closed_some}

pub close_view : {A : Type 0} (rows : List A) (count : ℕ) (levels : List ℕ) (open' : ℕ) → Sound rows count levels open' → (n : ℕ) → 0 < n → n ≤ open' →
    (view rows (get_or levels (open' - n) 0) levels (open' - n), Ok tt) ≡ closed (view rows count levels open') n
close_view rows count levels open' s n p h =
    let long = length-take-le open' levels s.deep in
    let left : depth (view rows count levels open') - n ≡ open' - n = omega arith in
    let at = get_or-take open' levels (open' - n) 0 (omega arith) in
    let rs = take-take (get_or levels (open' - n) 0) count rows (s.below (open' - n) (omega arith)) in
    let ls = take-take (open' - n) open' levels (omega arith) in
    let all = closed_some (view rows count levels open') n p (omega arith) in
    cc

-- What a list kept in place shows.
use Rattle.std.specs.Prelude.{ℕ, List, take}
use Rattle.tables.specs.declared.short.Short.{Short}

abbrev pub items_in : {A : Type 0} {n : ℕ} → Short A n → List A
items_in s = take s.count s.items

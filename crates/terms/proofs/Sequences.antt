-- What follows a fault or a value.
use Rattle.std.proofs.Common.{◌≡◌, Ok, Err, Result, refl}
use Rattle.terms.specs.Sorting.{after}

pub after-after : {A B C E : Type 0} (r : Result A E) (f : A → Result B E) (g : B → Result C E) → after (after r f) g ≡ after r (λ a. after (f a) g)
after-after (Ok a) f g = refl
after-after (Err e) f g = refl

pub after_same : {A B E : Type 0} (r : Result A E) (f g : A → Result B E) → ((a : A) → f a ≡ g a) → after r f ≡ after r g
after_same (Ok a) f g h = h a
after_same (Err e) f g h = refl

pub after_made : {A B C E : Type 0} (r : Result A E) (f : A → B) (g : B → Result C E) → after (after r (λ a. Ok (f a))) g ≡ after r (λ a. g (f a))
after_made (Ok a) f g = refl
after_made (Err e) f g = refl

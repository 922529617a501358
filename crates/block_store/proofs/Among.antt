-- A number that is among those of 32 bits has 32 bits.
use Rattle.std.proofs.Common.{◌≡◌, ℕ, ◌^◌, ◌<◌, ◌==◌, Bool, true, false, List, [], ◌∷◌, suc, slice_index_or, refl, arith}
use Rattle.std.specs.List.{list_any}
use Rattle.std.proofs.lemmas.Bool.Decides.{nat_tests}

below_found : (x y : ℕ) (b : Bool) → x < 2 ^ 32 → (x == y) ≡ b → (b ≡ false → y < 2 ^ 32) → y < 2 ^ 32
below_found x y true f e k = grind (arith, nat_tests)
below_found x y false f e k = k refl

pub below_any : (xs : List ℕ) (y : ℕ) → ((k : ℕ) → slice_index_or xs k 0 < 2 ^ 32) → list_any (λ x. x == y) xs ≡ true → y < 2 ^ 32
below_any [] y f e = cc
below_any (x ∷ xs) y f e =
    below_found x y (x == y) (f 0) refl (λ no. below_any xs y (λ k. f (suc k)) (rw no at e))

-- Draws: the generator's step in 64 bits, and what is drawn of a job.
use Rattle.std.proofs.Common.{◌≡◌, ℕ, zero, suc, ◌+◌, ◌*◌, ◌/◌, ◌%◌, ◌^◌, ◌<◌, ◌≤◌, [], ◌∷◌, ◌++◌, length, sym, ap, ◌∙◌, refl, arith, length-append, add-one}
use Rattle.std.specs.Prelude.{replicate, Bool, true, false, if◌then◌else◌}
use Rattle.std.proofs.Math.Nat.{div-add-mod, mul-add-mod_self_left}
use Rattle.load_maker.specs.Load.{after, draw, drawn_blocks, drawn_job, job_blocks, stepped, written}

mod_add : (a c k : ℕ) → (a % k + c) % k ≡ (a + c) % k
mod_add a c k =
    let split : k * (a / k) + (a % k + c) ≡ a + c = omega (arith, div-add-mod a k) in
    sym (mul-add-mod_self_left k (a / k) (a % k + c)) ∙ ap (λ x. x % k) split

pub stepped_is : (x : ℕ) → ((x * 6364136223846793005) % 2 ^ 64 + 1442695040888963407) % 2 ^ 64 ≡ (x * 6364136223846793005 + 1442695040888963407) % 2 ^ 64
stepped_is x = mod_add (x * 6364136223846793005) 1442695040888963407 (2 ^ 64)

-- one draw more
pub after_more : (k x : ℕ) → after (k + 1) x ≡ stepped (after k x)
after_more k x = ap (λ m. after m x) (add-one k)

pub blocks_more : (k x : ℕ) → drawn_blocks (k + 1) x ≡ drawn_blocks k x ++ replicate 64 (draw k x % 256) ∷ []
blocks_more k x = ap (λ m. drawn_blocks m x) (add-one k)

length-blocks : (k x : ℕ) → length (drawn_blocks k x) ≡ k
length-blocks zero x = refl
length-blocks (suc k) x =
    let rest = length-blocks k x in
    length-append (drawn_blocks k x) (replicate 64 (draw k x % 256) ∷ []) ∙ omega (arith, rest)

pub length-job_blocks : (x : ℕ) → length (job_blocks x) ≡ written (drawn_job x)
unfolding job_blocks
length-job_blocks x = length-blocks (written (drawn_job x)) (after 4 x)

-- a job has one block at least, and eight at most
pub count_most : (x : ℕ) → (drawn_job x).count ≤ 8
unfolding drawn_job
count_most x = omega arith

pub count_least : (x : ℕ) → 1 ≤ (drawn_job x).count
unfolding drawn_job
count_least x = omega arith

pub first_below : (x : ℕ) → (drawn_job x).first < 1784
unfolding drawn_job
first_below x = omega arith

written_of : (b : Bool) (count : ℕ) → count ≤ 8 → (if b then count else 0) ≤ 8
written_of true count h = h
written_of false count h = omega arith

pub written_most : (x : ℕ) → written (drawn_job x) ≤ 8
written_most x = written_of (drawn_job x).writes (drawn_job x).count (count_most x)

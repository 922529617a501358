-- What is the same: two bays, hosts, numbers or rows with one number, and what two equal options hold.
use Rattle.std.proofs.Common.{◌≡◌, ap, ℕ, ◌==◌, true, Option, Some, arith, None, false}
use Rattle.std.proofs.lemmas.Bool.Decides.{nat_tests}
use Rattle.raid_base.specs.declared.numbers.BayNo.{BayNo}
use Rattle.raid_base.specs.declared.numbers.HostNo.{HostNo}
use Rattle.raid_base.specs.declared.numbers.Number.{Number}
use Rattle.raid_base.specs.declared.numbers.RowNo.{RowNo}
use Rattle.histories.specs.Calls.{is_row}

pub same-bay : (a b : BayNo) → (a.0 == b.0) ≡ true → a ≡ b
same-bay a b e = let same : a.0 ≡ b.0 = grind (arith, nat_tests) in ap (λ (k : ℕ). record { 0 = k }) same

pub same-host : (a b : HostNo) → (a.0 == b.0) ≡ true → a ≡ b
same-host a b e = let same : a.0 ≡ b.0 = grind (arith, nat_tests) in ap (λ (k : ℕ). record { 0 = k }) same

pub same-number : (x y : Number) → (x.0 == y.0) ≡ true → x ≡ y
same-number x y e = let same : x.0 ≡ y.0 = grind (arith, nat_tests) in ap (λ (k : ℕ). record { 0 = k }) same

pub same-some : {X : Type 0} (x y : X) → Some x ≡ Some y → x ≡ y
same-some x y e = cc

-- both are what one option holds
pub both-held : {X : Type 0} (x y : X) (o : Option X) → o ≡ Some x → o ≡ Some y → x ≡ y
both-held x y o a b = cc

pub named-row : (row : RowNo) (o : Option RowNo) → is_row row o ≡ true → o ≡ Some row
named-row row None e = absurd (let bad : false ≡ true = e in cc)
named-row row (Some r) e =
    let test : (r.0 == row.0) ≡ true = e in
    let same : r.0 ≡ row.0 = grind (arith, nat_tests) in
    ap (λ (k : ℕ). let x : RowNo = record { 0 = k } in Some x) same

use Rattle.raid_xor.proofs.XorLemmas.{xor_of-comm, xor_of-assoc, zero_last, itself, length-xor_of, bytes-xor_of, sum_of-append}
use Rattle.raid_xor.proofs.blocks_add_up.Goals as goal

pub returns : goal.returns
returns c = record {
  commutes = xor_of-comm;
  associates = xor_of-assoc;
  zero = zero_last;
  inverse = itself;
  blocks = λ xs ys p q. (length-xor_of 64 xs ys p.0 q.0, bytes-xor_of xs ys p.1 q.1);
  sums = sum_of-append;
}

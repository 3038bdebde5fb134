use Rattle.std.proofs.Common.{◌+◌, ◌%◌, slice_index, arith, below_more}
use Rattle.std.proofs.lemmas.Nat.{le_or_l, le_or_r}
use Rattle.ledger.proofs.blocks.low_bits.Goals as goal

pub loop-k-preserved : goal.loop-k-preserved
loop-k-preserved c =
    let x = slice_index c.args.words.now (c.args.first + c.loop-k.k) % 131072 in
    below_more _ _ (λ i l. let a = c.loop-k.invariant i l in let b = le_or_l c.loop-k.seen x in omega arith) (le_or_r c.loop-k.seen x)

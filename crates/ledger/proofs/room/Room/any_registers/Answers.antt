use Rattle.std.proofs.Common.{ℕ, ◌+◌, ◌%◌, ◌≤◌, List, slice_index, subst, arith}
use Rattle.std.proofs.lemmas.Bool.{leb-false}
use Rattle.ledger.proofs.Passed.{no_registers_shown}
use Rattle.ledger.proofs.room.Room.any_registers.Goals as goal

pub returns : goal.returns
returns c none =
    let seen = leb-false 65536 c.low_bits.result none in
    no_registers_shown c.args.self.now.words.now c.args.who c.args.first c.place_word.result c.low_bits.result c.place_word.ensures (λ k l. subst (λ (ws : List ℕ). slice_index ws (c.place_word.result + k) % 131072 ≤ c.low_bits.result) c.words.ensures (c.low_bits.ensures k l)) (omega (arith, seen))

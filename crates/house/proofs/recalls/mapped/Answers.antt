use Rattle.ledger.specs.Room.{use_of, low_of}
use Rattle.std.proofs.Common.{ℕ, ap, List, ◌∙◌, ◌/◌, sym, subst, IsSome}
use Rattle.house.proofs.Mappings.{mapped_there, noted_at, some_noted, noted_some}
use Rattle.house.proofs.recalls.mapped.Goals as goal

pub slot-requires : goal.slot-requires
slot-requires c = let m = (mapped_there c.args.room.now.consistent c.requires (c.use_at.ensures ∙ ap (λ (ws : List ℕ). use_of ws c.args.f) c.words.ensures) c.in_ok-to.ensures) in record { device = m.device; page = m.page }

pub unwrap-table-requires : goal.unwrap-table-requires
unwrap-table-requires c = subst IsSome (sym (noted_at c.args.room.now.words.now c.words-2.result.now c.in_ok-to.to c.low_at.ensures c.words-2.ensures c.slot.ensures.device c.slot.ensures.index)) (some_noted (low_of c.args.room.now.words.now c.in_ok-to.to.device (c.in_ok-to.to.page / 512)) (mapped_there c.args.room.now.consistent c.requires (c.use_at.ensures ∙ ap (λ (ws : List ℕ). use_of ws c.args.f) c.words.ensures) c.in_ok-to.ensures).some)

pub returns : goal.returns
returns c = (mapped_there c.args.room.now.consistent c.requires (c.use_at.ensures ∙ ap (λ (ws : List ℕ). use_of ws c.args.f) c.words.ensures) c.in_ok-to.ensures).away c.unwrap-table.result (noted_some (low_of c.args.room.now.words.now c.in_ok-to.to.device (c.in_ok-to.to.page / 512)) c.unwrap-table.result (sym (noted_at c.args.room.now.words.now c.words-2.result.now c.in_ok-to.to c.low_at.ensures c.words-2.ensures c.slot.ensures.device c.slot.ensures.index) ∙ c.unwrap-table.ensures))

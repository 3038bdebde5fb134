use Rattle.std.proofs.Common.{◌∙◌, arith, refl}
use Rattle.ledger.proofs.Closed.{top_within, shut_made}
use Rattle.ledger.proofs.room.Room.drop_upper.Goals as goal

pub set_use-requires : goal.set_use-requires
set_use-requires c =
    let l = top_within c.args.self.now.frames c.args.self.now.words.now c.args.self.now.words.now c.args.d c.args.self.now.consistent c.requires.live in
    record { long = omega (arith, c.args.self.now.consistent.long, c.top_at-upper.ensures); fits = tt }

pub returns : goal.returns
returns c = (refl, refl, (shut_made c.args.self.now.frames c.args.self.now.words.now c.set_device.new.words c.args.d c.args.self.now.consistent c.set_use.new.words c.set_top.new.words c.top_at-upper.result c.top_at-upper.ensures (omega arith) c.requires.live c.requires.lows c.requires.free c.requires.hidden (c.set_use.ensures.view c.args.self.now.frames (let l = top_within c.args.self.now.frames c.args.self.now.words.now c.args.self.now.words.now c.args.d c.args.self.now.consistent c.requires.live in omega (arith, c.top_at-upper.ensures))) (c.set_top.ensures.view c.args.self.now.frames) (c.set_device.ensures.view c.args.self.now.frames) (c.set_device.ensures.tags ∙ c.set_top.ensures.tags ∙ c.set_use.ensures.tags)).0, omega arith)

pub invariant_of-self : goal.invariant_of-self
invariant_of-self c = record { consistent = (shut_made c.args.self.now.frames c.args.self.now.words.now c.set_device.new.words c.args.d c.args.self.now.consistent c.set_use.new.words c.set_top.new.words c.top_at-upper.result c.top_at-upper.ensures (omega arith) c.requires.live c.requires.lows c.requires.free c.requires.hidden (c.set_use.ensures.view c.args.self.now.frames (let l = top_within c.args.self.now.frames c.args.self.now.words.now c.args.self.now.words.now c.args.d c.args.self.now.consistent c.requires.live in omega (arith, c.top_at-upper.ensures))) (c.set_top.ensures.view c.args.self.now.frames) (c.set_device.ensures.view c.args.self.now.frames) (c.set_device.ensures.tags ∙ c.set_top.ensures.tags ∙ c.set_use.ensures.tags)).1 }

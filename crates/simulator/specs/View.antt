-- What a board holds, without references.
use Rattle.simulator.specs.declared.board.Board.{Board}
use Rattle.simulator.specs.Lists.{newest}
use Rattle.simulator.specs.Parts.{Parts}
use Rattle.simulator.specs.Rows.{events_of}

abbrev pub parts_of : Board → Parts
parts_of b =
    record { frames = b.memory.frames; devices = b.devices.now; mem = b.memory.words.now; space = b.spaces.places.now; live = b.live; ups = newest b.ups; mids = newest b.mids; leaves = newest b.leaves; flying = newest b.flying; left = b.left; notes = events_of b.log }

-- The worked example, by computation.
use Rattle.std.proofs.Common.{refl}
use Rattle.order.specs.Places.{text}
use Rattle.store.specs.Overlay.{overlay, run}
use Rattle.model.specs.Example.{WorkedExample}

-- every line of the worked example comes out as it is told
pub worked_example : WorkedExample
unfolding text overlay run
worked_example =
    record {
      too_small = refl;
      smallest = refl;
      no_room = refl;
      fill3 = refl;
      fill4 = refl;
      fill18 = refl;
      fill19 = refl;
      truck0 = refl;
      truck10000 = refl;
      truck_seven = refl;
      three_turns = refl;
      one_name = refl;
      refused = refl;
      merges_at_half = refl;
      sweeps_two = refl;
      attached = refl;
      no_index = refl;
      no_store = refl;
    }

-- One adoption, 4.9 to 4.19 of the adoption agency, keeps a sound state sound and takes four nodes at most.
-- Assumes nothing.
use Rattle.std.specs.Prelude.{ℕ, suc, ◌+◌, ◌-◌, ◌≤◌, ◌<◌, ◌≡◌}
use Rattle.std.proofs.Common.{◌∙◌, arith}
use Rattle.theory.specs.Fn.{at}
use Rattle.lent.specs.Mem.{NODES, slots}
use Rattle.arena.proofs.Lengths.{slots_same}
use Rattle.places.specs.Places as places
use Rattle.state.specs.Full.{Full}
use Rattle.sound.specs.State.{SoundFull}
use Rattle.standard.specs.Adoption.{Inner, started, inner, adopted}
use Rattle.adopted.proofs.Bound.{adopted_more}
use Rattle.kept.specs.Loop.{InnerSound}
use Rattle.kept.specs.Furthest.{Blocked, past_root, adopted_inner, inner_room, inner_clear, inner_plain}
use Rattle.kept.specs.Finish.{InnerDone, finished_sound}
use Rattle.kept.specs.Spent.{finished_slots}

-- what an adoption gives
pub record Adopted (f g : Full) : Type 0 where
  pub sound : SoundFull g
  pub used : g.nodes.used ≤ f.nodes.used + 4
  pub slots : slots NODES g.nodes.mem ≡ slots NODES f.nodes.mem

module _ (f : Full) (o : SoundFull f) (s j b : ℕ) (w : Blocked f s j b) (room : f.nodes.used + 4 < slots NODES f.nodes.mem) where
  -- the state after the inner loop
  abbrev looped : Inner
  looped = inner (started f (at f.stack.held b) j) (at f.list.held j) (at f.stack.held b) 0 b

  loop : InnerSound f (at f.list.held j) (at f.stack.held b) s looped (suc s) 3
  loop = adopted_inner f o w room

  loop_done : InnerDone looped (at f.list.held j) (at f.stack.held b) (at f.stack.held (s - 1))
  unfolding places.at
  loop_done =
      let e = loop in
      record {
        sound = e.sound;
        s = s;
        some = past_root f o w;
        deep = e.deep;
        formatting = e.formatting;
        last = e.last;
        common = e.since.front.same (s - 1) (omega arith);
        further = (e.further.0, omega (arith, e.further.1), e.further.2, e.further.3);
        plain = inner_plain f o w e;
        stops = inner_clear f o w e;
        listed = (e.listed.place, e.listed.below, e.listed.is);
        mark = e.mark;
        room = inner_room f o w e room;
      }

  pub adopted_sound : Adopted f (adopted f (places.at f.list j) s j b)
  unfolding adopted places.at
  adopted_sound =
      let e = loop in
      let n = at f.list.held j in
      let x = at f.stack.held b in
      let y = at f.stack.held (s - 1) in
      record {
        sound = finished_sound looped n x y loop_done;
        used = (adopted_more f n s j b).most;
        slots = finished_slots looped n x y ∙ slots_same f.nodes.mem looped.full.nodes.mem e.since.size;
      }

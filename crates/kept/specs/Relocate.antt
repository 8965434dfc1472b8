-- An element that is not the root leaves its parent and is put at a place: a sound state stays sound, if the order does.
-- Assumes nothing.
use Rattle.std.specs.Prelude.{ℕ, ◌≤◌, ◌<◌, ◌≡◌, refl, ◌≢◌, List, length, take, Option}
use Rattle.std.proofs.Common.{◌∙◌, arith}
use Rattle.theory.specs.Fn.{Upd}
use Rattle.theory.specs.Natural.{Natural}
use Rattle.lent.specs.Mem.{field, up, KIND, ELEMENT}
use Rattle.arena.specs.Links.{detached}
use Rattle.arena.proofs.Lengths.{length_detached}
use Rattle.state.specs.declared.Context.{Context}
use Rattle.sound.specs.Sound.{Sound}
use Rattle.standard.specs.declared.Place.{Place}
use Rattle.standard.specs.declared.Place.TheVariants.{End, Before}
use Rattle.standard.specs.Place.{attached}
use Rattle.kept.specs.Attach.{parent_at, Spot, Child, attached_child, child_up, forest, attached_sound}
use Rattle.kept.specs.Usual.{Usual}
use Rattle.kept.specs.Grow.{upd_upd}
use Rattle.kept.specs.Detach.{detached_kind, detached_pars, detached_parent, detached_up, detached_sound}

-- what it comes before is another node than n
abbrev pub Aside : ℕ → Place → Type 0
Aside n (End p) = Unit {0}
Aside n (Before s) = s.0 ≢ n

module _ {m p q l f t : List ℕ} {c v u d k s foster head : ℕ} {x : Option Context} (o : Sound m p q l f t c v u d k s foster head x)
    (n : ℕ) (nz : 0 < n) (nc : n ≤ c) (ne : field m n KIND ≡ ELEMENT) where
  parent_same : (w : Place) → Aside n w → parent_at (detached m n) w ≡ parent_at m w
  parent_same (End b) a = refl
  parent_same (Before b) a = (detached_pars o n nz nc ne).old b.0 a

  module _ (nt : n ≢ 2) (w : Place) (g : Usual m c w) (a : Aside n w) where
    away : Sound (detached m n) p q l f t c v u d k s foster head x
    away = detached_sound o n nz nc ne nt

    spot : Spot (detached m n) c w
    spot =
        let e = parent_same w a in
        let h = detached_kind m n (parent_at m w) in
        record {
          some = rw e g.spot.some;
          used = rw e g.spot.used;
          text = rw (e, h) g.spot.text;
          comment = rw (e, h) g.spot.comment;
          sibling = g.spot.sibling;
        }

    is_element : field (detached m n) n KIND ≡ ELEMENT
    is_element = rw (detached_kind m n n) ne

    child : Child (detached m n) (attached (detached m n) w n) c away.tree.children.kids (parent_at (detached m n) w) n
    child = attached_child (forest away) w spot n nz nc (detached_parent o n nz nc ne)

    pub relocated_length : length (attached (detached m n) w n) ≡ length m
    relocated_length = child.size ∙ length_detached m n

    pub relocated_up : Upd (up m) (up (attached (detached m n) w n)) n (parent_at m w)
    relocated_up =
        rw (parent_same w a) at (upd_upd (detached_up o n nz nc ne) (child_up child (let e = is_element in omega arith)))

    pub relocated_sound : Natural (up (attached (detached m n) w n)) c (take d l) → Sound (attached (detached m n) w n) p q l f t c v u d k s foster head x
    relocated_sound r =
        let e = is_element in
        attached_sound away child spot.text spot.comment (omega arith) (omega arith) (λ h. rw (parent_same w a) g.inner)
        (detached_parent o n nz nc ne) r

-- The check at the edge, and what a call that checks first gives.
-- Assumes nothing.
use Rattle.std.proofs.Common.{ℕ, ◌+◌, ◌≡◌, ap, sym, ◌∙◌, List, Bool, true, false, length, take, drop, length-append, take-append-drop, Option}
use Rattle.theory.specs.Says.{Says, says_map, says_no}
use Rattle.places.specs.Places.{places_of}
use Rattle.sound.specs.Sound.{Sound}
use Rattle.sound.specs.State.{SoundFull}
use Rattle.kept.specs.Edge.{full_sound}
use Rattle.state.specs.declared.Core.{Core}
use Rattle.state.specs.declared.Context.{Context}
use Rattle.state.specs.declared.State.{State}
use Rattle.state.specs.Fields.{core_of}
use Rattle.state.specs.Full.{full}
use Rattle.edge.specs.Public.{Checked, whole}

-- as many places as the view of them
total : (s : List ℕ) (d : ℕ) → length (places_of s d).held + length (places_of s d).free ≡ length s
total s d = sym (length-append (take d s) (drop d s)) ∙ ap length (take-append-drop d s)

module _ (s : List ℕ) (c : Core) (x : Option Context) (n l m p q : List ℕ) where
  pub check_short : (length s ≡ 512 → ⊥) → Says (SoundFull (full s c x n l m p q)) false
  check_short h = says_no (λ ok. h (sym (total s c.depth) ∙ ok.places))

  pub check_full : {r : Bool} → length s ≡ 512
      → Says (Sound n p q s l m c.counts.nodes c.counts.pieces c.counts.pairs c.depth c.counts.list c.counts.modes c.flags.foster c.flags.head x) r
      → Says (SoundFull (full s c x n l m p q)) r
  check_full h w = let t = full_sound s c x n l m p q h in says_map w t.0 t.1

pub checked_yes : {P : Type 0} {A : Type 0} {a yes no : A} {r : Bool} → Says P r → r ≡ true → a ≡ yes → Checked P a yes no
checked_yes {r = r} w h e = record { ok = r; says = w; is = rw h e }

-- ---- from the record's parts to the record

module _ (st : State) (n l m p q : List ℕ) {c : Core} (e : c ≡ core_of st) where
  pub core_whole : full st.stack.handles c st.context n l m p q ≡ whole st n l m p q
  unfolding whole
  core_whole = rw e

  pub says_edge : {r : Bool} → Says (SoundFull (full st.stack.handles c st.context n l m p q)) r → Says (SoundFull (whole st n l m p q)) r
  says_edge w = rw core_whole at w

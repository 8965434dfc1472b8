-- Inserting a comment and inserting text keep a sound state sound.
-- Assumes nothing.
use Rattle.std.proofs.Common.{ℕ, zero, suc, ◌≤◌, ◌<◌, arith, add-one}
use Rattle.std.specs.Prelude.{◌≡◌, eqb, ltb}
use Rattle.std.proofs.lemmas.Bool.{eqb-false}
use Rattle.lent.specs.Mem.{NODES, PIECES, field, KIND, TEXT}
use Rattle.lent.specs.Room.{free_nodes, free_pieces}
use Rattle.makers.proofs.Made.{comment_made, comment_fields, text_made, text_fields}
use Rattle.state.specs.Full.{Full}
use Rattle.sound.specs.State.{SoundFull}
use Rattle.standard.specs.Place.{text_before}
use Rattle.standard.specs.declared.Place.{Place}
use Rattle.standard.specs.Insertion.{usual_place, comment_place, comment_at, inserted_comment, joined_text, new_text, text_at, inserted_text}
use Rattle.kept.specs.Room.{held_in, slots_pieces, room_node, room_piece}
use Rattle.kept.specs.Keeps.{Keeps, either}
use Rattle.kept.specs.Parts.{nodes_sound, pieces_sound}
use Rattle.kept.specs.Pieces.{words_other, words_text}
use Rattle.kept.specs.Attach.{Spot}
use Rattle.kept.specs.Usual.{place_usual}
use Rattle.kept.specs.Fresh.{fresh_comment, fresh_text}
use Rattle.kept.specs.Join.{length_piece, joined_sound, before_text}
use Rattle.kept.specs.Grow.{made_old, old_texts, grown_sound}

module _ (f : Full) (s : SoundFull f) where
  -- ---- a comment

  comment_spot : (place : ℕ) → Spot f.nodes.mem f.nodes.used (comment_place f place)
  unfolding comment_place
  comment_spot zero = (place_usual f s).spot
  comment_spot (suc zero) =
      let t = s.sound.tree.top in
      let e = t.element in
      record { some = omega arith; used = t.two; text = omega arith; comment = omega arith; sibling = tt }
  comment_spot (suc (suc n)) =
      let t = s.sound.tree.top in
      let e = t.document in
      record { some = omega arith; used = omega (arith, t.two); text = omega arith; comment = omega arith; sibling = tt }

  comment_at_lem : (a : Place) → Spot f.nodes.mem f.nodes.used a → (number : ℕ) → Keeps (comment_at f a number)
  unfolding comment_at
  comment_at_lem a b number =
      either (eqb (free_nodes f.nodes.mem f.nodes.used) 0) (λ e. record { sound = s })
      (λ e.
      let r = room_node f.nodes.mem f.nodes.used e in
      let i = held_in NODES f.nodes.mem (suc f.nodes.used) r in
      let w = comment_made f.nodes.mem (suc f.nodes.used) i number in
      let h = comment_fields f.nodes.mem (suc f.nodes.used) i number in
      let g = h.kind in
      rw add-one
      (record {
        sound =
            nodes_sound f s _ _
            (grown_sound s.sound w r (fresh_comment w number h) (omega arith)
            (words_other s.sound.texts (old_texts (made_old w)) (omega arith))
            s.sound.sizes.pieces a b (omega arith) (λ d. absurd (omega arith)));
      }))

  pub inserted_comment_sound : (place number : ℕ) → SoundFull (inserted_comment f place number).after
  unfolding inserted_comment
  inserted_comment_sound place number = k.sound
    where
      k : Keeps (inserted_comment f place number)
      k = either (ltb 2 place) (λ e. record { sound = s }) (λ e. comment_at_lem (comment_place f place) (comment_spot place) number)

  -- ---- text

  new_text_lem : (a : Place) → Spot f.nodes.mem f.nodes.used a → (number : ℕ) → Keeps (new_text f a number)
  unfolding new_text
  new_text_lem a b number =
      either (eqb (free_nodes f.nodes.mem f.nodes.used) 0) (λ e. record { sound = s })
      (λ e. either (eqb (free_pieces f.pieces.mem f.pieces.used) 0) (λ g. record { sound = s })
      (λ g.
      let r = room_node f.nodes.mem f.nodes.used e in
      let y = room_piece f.pieces.mem f.pieces.used g in
      let z = slots_pieces f.pieces.mem (suc f.pieces.used) y in
      let i = held_in NODES f.nodes.mem (suc f.nodes.used) r in
      let w = text_made f.nodes.mem (suc f.nodes.used) i (suc f.pieces.used) in
      let h = text_fields f.nodes.mem (suc f.nodes.used) i (suc f.pieces.used) in
      let j = h.kind in
      simp add-one
      (record {
        sound =
            pieces_sound f s _ _ _ _
            (grown_sound s.sound w r (fresh_text w (suc f.pieces.used) h) (omega arith)
            (words_text number s.sound.texts i (held_in PIECES f.pieces.mem (suc f.pieces.used) y))
            (z.0, rw (length_piece f.pieces.mem (suc f.pieces.used) number) z.1) a b (omega arith) (λ d. absurd (omega arith)));
      })))

  joined_text_lem : (n : ℕ) → 0 < n → n ≤ f.nodes.used → field f.nodes.mem n KIND ≡ TEXT → (number : ℕ) → Keeps (joined_text f n number)
  unfolding joined_text
  joined_text_lem n z h e number =
      either (eqb (free_pieces f.pieces.mem f.pieces.used) 0) (λ g. record { sound = s })
      (λ g.
      simp add-one
      (record { sound = pieces_sound f s _ _ _ _ (joined_sound s.sound n z h e (room_piece f.pieces.mem f.pieces.used g) number) }))

  pub inserted_text_sound : (number : ℕ) → SoundFull (inserted_text f number).after
  unfolding inserted_text text_at
  inserted_text_sound number = k.sound
    where
      w : Spot f.nodes.mem f.nodes.used (usual_place f)
      w = (place_usual f s).spot

      k : Keeps (inserted_text f number)
      k =
          either (eqb (text_before f.nodes.mem (usual_place f)) 0) (λ e. new_text_lem (usual_place f) w number)
          (λ e.
          let t = before_text s.sound (usual_place f) w (eqb-false _ 0 e) in
          joined_text_lem (text_before f.nodes.mem (usual_place f)) t.0 t.1 t.2 number)

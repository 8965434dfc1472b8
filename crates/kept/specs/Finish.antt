-- The adoption agency, 4.14 to 4.19: lastNode goes to the appropriate place, a copy of the formatting element takes the children of the
-- furthest block, and takes the place of the formatting element in stack and list. A sound state stays sound.
-- Assumes nothing.
use Rattle.std.proofs.Common.{ℕ, suc, ◌+◌, ◌-◌, ◌≤◌, ◌<◌, refl, ap, sym, ◌∙◌, take_all, ltb-false, arith, add-one, length}
use Rattle.std.specs.Prelude.{◌≡◌, ◌≢◌, Bool, true, false, cond, List, ltb, Some}
use Rattle.std.proofs.Math.Decide.{dec_lt}
use Rattle.names.specs.Tag as tag
use Rattle.theory.specs.Fn.{at}
use Rattle.theory.specs.Ord.{Wrap}
use Rattle.lent.specs.Mem.{NODES, slots, field, up, KIND, TIE, SPACE, NAME, ELEMENT}
use Rattle.arena.proofs.Lengths.{slots_same}
use Rattle.makers.specs.Make.{copied, tag_of}
use Rattle.makers.proofs.Made.{Fields}
use Rattle.arena.proofs.Others.{NoLink}
use Rattle.arena.proofs.Ancestors.{kind_free}
use Rattle.nodes.specs.Nodes.{Template}
use Rattle.places.specs.Places as places
use Rattle.places.specs.Places.{Places, Whole, without, within, place_of}
use Rattle.state.specs.Full.{Full, with_stack, with_list, with_nodes}
use Rattle.sound.specs.State.{SoundFull}
use Rattle.standard.specs.Html.{is_html}
use Rattle.standard.specs.Place.{is_foster_stop}
use Rattle.standard.specs.Adoption.{Inner, inner_at, gone, placed_at, rehung, at_mark, relisted, finished}
use Rattle.kept.specs.Parts.{nodes_sound, stack_sound}
use Rattle.kept.specs.Same.{open_used}
use Rattle.kept.specs.Attach.{late_free}
use Rattle.kept.specs.Entries.{New, without_whole}
use Rattle.kept.specs.Copy.{Copyable, entry_copyable}
use Rattle.kept.specs.Renew.{copy_fields}
use Rattle.kept.specs.Tree.{stack_once, template_is}
use Rattle.kept.specs.Leave.{less_length, less_high, without_total, within_whole, within_total, without_stack, without_list, within_list}
use Rattle.kept.specs.Beneath.{take_whole, whole_order}
use Rattle.kept.specs.Placed.{placed, placed_field, placed_length, placed_sound}
use Rattle.kept.specs.Rehang.{rehung_field, rehung_sound, rehung_wrap}
use Rattle.kept.specs.Exchange.{FoundAt, found_at, exchanged_is, wrapped_order, wrapping_order, open_within}

-- fe is entry a of the stack, lastNode the next one, the common ancestor the one before it, and the furthest block entry b.
-- After 4.14, and then without fe on the stack
abbrev first : Full → ℕ → Full
first f a = with_nodes f (placed f (a - 1) (suc a)) f.nodes.used

abbrev second : Full → ℕ → Full
second f a = with_stack (first f a) (without f.stack a)

-- the bytes after 4.17
abbrev bytes : Full → ℕ → ℕ → List ℕ
bytes f a b = rehung (placed f (a - 1) (suc a)) (suc f.nodes.used) (at f.stack.held a) (at f.stack.held b)

-- the bookmark is within the list without its entry j
gone_le : (p j d : ℕ) → p ≤ d → j < d → gone p j ≤ d - 1
unfolding gone
gone_le p j d h l = by (ltb j p) refl
  where
    by : (b : Bool) → ltb j p ≡ b → cond b (p - 1) p ≤ d - 1
    by true e = omega arith
    by false e = omega (arith, ltb-false j p e)

relisted_is : (p : ℕ) (l : Places) (x n j : ℕ) → place_of l x ≡ Some j → relisted p l x n ≡ within (without l j) (gone p j) n
unfolding relisted at_mark
relisted_is p l x n j e = rw e

-- and the state after 4.19, where entry i of the stack without fe is the block
abbrev fourth : Full → ℕ → ℕ → ℕ → Full
fourth f a b i =
    with_stack (with_nodes (second f a) (bytes f a b) (suc f.nodes.used)) (within (without f.stack a) (suc i) (suc f.nodes.used))

module _ (f : Full) (s : SoundFull f) (a b j : ℕ) (az : 0 < a) (ad : suc a < f.stack.size) (ab : a < b) (bd : b < f.stack.size)
    (plain : is_html f.nodes.mem (at f.stack.held b) tag.template ≡ false)
    (stops : (k : ℕ) → a < k → k < f.stack.size → is_foster_stop f.nodes.mem (places.at f.stack k) ≡ false)
    (jd : j < f.list.size) (same : at f.list.held j ≡ at f.stack.held a) (room : suc f.nodes.used < slots NODES f.nodes.mem) where
  -- a table or template stands no later than fe
  no_later : (k : ℕ) → k < length f.stack.held → is_foster_stop f.nodes.mem (places.at f.stack k) ≡ true → k < suc a
  no_later k h e = by (dec_lt a k)
    where
      by : Dec (a < k) → k < suc a
      by (yes g) =
          let z : ◌≡◌ {A = Bool} true false = sym e ∙ stops k g (omega (arith, s.stack.all)) in
          let n : ◌≡◌ {A = ℕ} 0 1 = cc in
          omega arith
      by (no g) = omega arith

  first_sound : SoundFull (first f a)
  first_sound = placed_sound f s (a - 1) (suc a) (omega arith) ad no_later

  second_sound : SoundFull (second f a)
  unfolding with_nodes
  second_sound = without_stack (first f a) first_sound a az (omega arith)

  -- where the block stands when fe has left
  block : FoundAt (without f.stack a) (at f.stack.held b)
  unfolding without
  block =
      let l = s.stack.all in
      let r : b - 1 + 1 ≡ b = omega arith in
      found_at (without f.stack a) (at f.stack.held b) (b - 1) (omega (arith, less_length f.stack.held a (omega arith)))
      (less_high f.stack.held a (omega arith) (b - 1) (omega arith) ∙ ap (λ (k : ℕ). at f.stack.held k) r)

  may : Copyable (placed f (a - 1) (suc a)) f.pairs.mem f.pairs.used (at f.stack.held a)
  unfolding with_nodes
  may =
      let w = open_used s.sound a (omega arith) in
      rw same at (entry_copyable first_sound.sound j jd (λ e. omega (arith, same, s.sound.sizes.nodes.0)))

  space_left : suc f.nodes.used < slots NODES (placed f (a - 1) (suc a))
  space_left = rw (slots_same f.nodes.mem (placed f (a - 1) (suc a)) (placed_length f s (a - 1) (suc a) (omega arith) ad no_later)) room

  block_used : (0 < at f.stack.held b) × (at f.stack.held b ≤ f.nodes.used)
  block_used = open_used s.sound b bd

  block_kind : field (placed f (a - 1) (suc a)) (at f.stack.held b) KIND ≡ ELEMENT
  block_kind = placed_field f (a - 1) (suc a) (at f.stack.held b) KIND kind_free ∙ s.sound.tree.stack.elements b bd

  block_plain : ¬ Template (placed f (a - 1) (suc a)) (at f.stack.held b)
  block_plain t =
      let late : (g : ℕ) → TIE ≤ g → g < 16 → field (placed f (a - 1) (suc a)) (at f.stack.held b) g ≡ field f.nodes.mem (at f.stack.held b) g
      = λ g h k. placed_field f (a - 1) (suc a) (at f.stack.held b) g (late_free g h k) in
      let e = template_is f.nodes.mem (at f.stack.held b)
      (record {
        kind = s.sound.tree.stack.elements b bd;
        space = sym (late SPACE (omega arith) (omega arith)) ∙ t.space;
        name = sym (late NAME (omega arith) (omega arith)) ∙ t.name;
      }) in
      let z : ◌≡◌ {A = Bool} true false = sym e ∙ plain in
      let n : ◌≡◌ {A = ℕ} 0 1 = cc in
      omega arith

  -- ---- 4.15 to 4.17

  copy_is : Fields (copied (placed f (a - 1) (suc a)) (suc f.nodes.used) (at f.stack.held a)) (suc f.nodes.used) ELEMENT (tag_of (placed f (a - 1) (suc a)) (at f.stack.held a)) 0 0
  unfolding with_nodes
  copy_is = copy_fields first_sound.sound (at f.stack.held a) may space_left

  new_field : (g : ℕ) → NoLink g
      → field (bytes f a b) (suc f.nodes.used) g ≡ field (copied (placed f (a - 1) (suc a)) (suc f.nodes.used) (at f.stack.held a)) (suc f.nodes.used) g
  unfolding with_nodes
  new_field = rehung_field first_sound.sound (at f.stack.held a) may space_left (at f.stack.held b) block_used.0 block_used.1 block_kind (suc f.nodes.used)

  wraps : Wrap (up (placed f (a - 1) (suc a))) (up (bytes f a b)) f.nodes.used (at f.stack.held b)
  unfolding with_nodes
  wraps = rehung_wrap first_sound.sound (at f.stack.held a) may space_left (at f.stack.held b) block_used.0 block_used.1 block_kind block_plain

  third_sound : SoundFull (with_nodes (second f a) (bytes f a b) (suc f.nodes.used))
  unfolding with_nodes with_stack
  third_sound =
      nodes_sound (second f a) second_sound (bytes f a b) (suc f.nodes.used)
      (rehung_sound second_sound.sound (at f.stack.held a) may space_left (at f.stack.held b) block_used.0 block_used.1 block_kind
      (rw (take_whole (second f a) second_sound) (wrapping_order (without f.stack a).held block.place block.below block.is (whole_order (second f a) second_sound) wraps)))

  -- ---- 4.19

  new_kind : field (bytes f a b) (suc f.nodes.used) KIND ≡ ELEMENT
  new_kind = new_field KIND kind_free ∙ copy_is.kind

  -- what is left of the stack
  rest_whole : Whole (without f.stack a)
  rest_whole = without_whole f.stack s.stack a (omega arith)

  fourth_sound : SoundFull (fourth f a b block.place)
  unfolding with_nodes with_stack within without
  fourth_sound =
      let n = suc f.nodes.used in
      let p = without f.stack a in
      let l = rest_whole.all in
      let r = block.below in
      let w = within_whole p rest_whole (suc block.place) n (omega arith) in
      stack_sound (with_nodes (second f a) (bytes f a b) n) third_sound (within p (suc block.place) n) w
      (within_total p rest_whole (suc block.place) n (omega arith) (omega arith) ∙ without_total f.stack s.stack a (omega arith) ∙ s.places)
      (rw (take_all (within p (suc block.place) n).size (within p (suc block.place) n).held (omega (arith, w.all)))
      (wrapped_order p.held block.place block.below block.is (whole_order (second f a) second_sound) wraps))
      (open_within third_sound.sound.tree.stack l (suc block.place) n (omega arith) (omega arith) new_kind)

  -- ---- 4.18

  entry : FoundAt f.list (at f.stack.held a)
  entry = found_at f.list (at f.stack.held a) j (omega (arith, s.list.all)) same

  entry_in : entry.place < f.list.size
  entry_in = omega (arith, entry.below, s.list.all)

  able : New (bytes f a b) (suc f.nodes.used) (without f.list entry.place).held (suc f.nodes.used)
  unfolding tag_of with_list with_nodes
  able =
      record {
        used = (omega arith, omega arith);
        html = (new_kind, new_field SPACE (late_free SPACE (omega arith) (omega arith)) ∙ copy_is.space ∙ may.html);
        name = rw (new_field NAME (late_free NAME (omega arith) (omega arith)) ∙ copy_is.name) may.named;
        absent = absent;
      }
    where
      absent : (i : ℕ) → i < length (without f.list entry.place).held → at (without f.list entry.place).held i ≢ suc f.nodes.used
      absent i h e =
          let few = fourth_sound.sound.sizes.nodes.0 in
          let w = without_list f s entry.place entry_in in
          omega (arith, (w.sound.entries.entry i (omega (arith, w.list.all))).used (λ g. omega arith))

  fifth_sound : (mark : ℕ) → mark ≤ f.list.size
      → SoundFull (with_list (fourth f a b block.place) (within (without f.list entry.place) (gone mark entry.place) (suc f.nodes.used)))
  unfolding with_nodes with_stack with_list without
  fifth_sound mark h =
      within_list (with_list (fourth f a b block.place) (without f.list entry.place))
      (without_list (fourth f a b block.place) fourth_sound entry.place entry_in)
      (gone mark entry.place) (gone_le mark entry.place f.list.size h entry_in) (omega (arith, s.sound.places.entries.0, entry_in))
      (suc f.nodes.used) able

  -- ---- all of it

  fe_place : place_of f.stack (at f.stack.held a) ≡ Some a
  unfolding places.at
  fe_place = by (dec_lt fe.place a) (dec_lt a fe.place)
    where
      fe : FoundAt f.stack (at f.stack.held a)
      fe = found_at f.stack (at f.stack.held a) a (omega (arith, s.stack.all)) refl

      by : Dec (fe.place < a) → Dec (a < fe.place) → place_of f.stack (at f.stack.held a) ≡ Some a
      by (yes h) g = absurd (stack_once f s fe.place a h (omega arith) fe.is)
      by (no h) (yes g) = absurd (stack_once f s a fe.place g (omega (arith, fe.below, s.stack.all)) (sym fe.is))
      by (no h) (no g) = let e : fe.place ≡ a = omega arith in rw e at fe.found

  all_sound : (mark : ℕ) → mark ≤ f.list.size
      → SoundFull (finished (inner_at f (at f.stack.held (suc a)) mark) (at f.stack.held a) (at f.stack.held b) (places.at f.stack (a - 1)))
  unfolding finished placed_at with_nodes with_stack with_list
  all_sound mark h =
      rw (
        add-one,
        exchanged_is f.stack (at f.stack.held a) (at f.stack.held b) (suc f.nodes.used) a block.place fe_place block.found,
        add-one,
        relisted_is mark f.list (at f.stack.held a) (suc f.nodes.used) entry.place entry.found,
      )
      (fifth_sound mark h)

-- What the inner loop leaves. The formatting element fe is entry s of the stack; lastNode comes right after it, the common ancestor right
-- before it, and the furthest block after it. No table and no template was opened after fe. The bookmark is a position in the list.
pub record InnerDone (w : Inner) (fe block ancestor : ℕ) : Type 0 where
  pub sound : SoundFull w.full
  pub s : ℕ
  pub some : 0 < s
  pub deep : suc s < w.full.stack.size
  pub formatting : at w.full.stack.held s ≡ fe
  pub last : at w.full.stack.held (suc s) ≡ w.last
  pub common : at w.full.stack.held (s - 1) ≡ ancestor
  pub further : (b : ℕ) × (s < b) × (b < w.full.stack.size) × (at w.full.stack.held b ≡ block)
  pub plain : is_html w.full.nodes.mem block tag.template ≡ false
  pub stops : (k : ℕ) → s < k → k < w.full.stack.size → is_foster_stop w.full.nodes.mem (at w.full.stack.held k) ≡ false
  pub listed : (j : ℕ) × (j < w.full.list.size) × (at w.full.list.held j ≡ fe)
  pub mark : w.mark ≤ w.full.list.size
  pub room : suc w.full.nodes.used < slots NODES w.full.nodes.mem

pub finished_sound : (w : Inner) (fe block ancestor : ℕ) → InnerDone w fe block ancestor → SoundFull (finished w fe block ancestor)
unfolding places.at
finished_sound w fe block ancestor r =
    let b = r.further in
    let j = r.listed in
    rw (r.last, r.formatting, b.3, r.common) at
    (all_sound w.full r.sound r.s b.0 j.0 r.some r.deep b.1 b.2 (rw b.3 r.plain) r.stops j.1 (j.2 ∙ sym r.formatting) r.room
    w.mark r.mark)

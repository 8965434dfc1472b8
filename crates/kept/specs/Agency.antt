-- The adoption agency (call 8), and what a start tag `a` does to an `a` in the list (call 9), keep a sound state sound. A round takes
-- four nodes at most, so the 32 that must be free are enough for eight rounds.
-- Assumes nothing.
use Rattle.std.specs.Prelude.{ℕ, zero, suc, ◌+◌, ◌-◌, ◌*◌, ◌<◌, ◌≡◌, ◌≢◌, Bool, true, false, cond, not, None, Option, Some}
use Rattle.std.proofs.Common.{refl, sym, ◌∙◌, arith}
use Rattle.std.proofs.Math.Decide.{dec_lt}
use Rattle.std.proofs.lemmas.Bool.{eqb-false, not-false}
use Rattle.names.specs.Space as space
use Rattle.names.specs.Tag as tag
use Rattle.names.specs.Sets.{is_in, formatting, Formatting, DefaultScope}
use Rattle.theory.specs.Fn.{at}
use Rattle.lent.specs.Mem.{NODES, slots, field, NAME}
use Rattle.places.specs.Places as places
use Rattle.places.specs.Places.{place_of, same, cut, left, left_at}
use Rattle.state.specs.Full.{Full, with_stack, with_list}
use Rattle.sound.specs.State.{SoundFull}
use Rattle.standard.specs.Html.{is_html, current}
use Rattle.standard.specs.Stack.{in_scope, shorter, bad_end_tag, ended, end_tag}
use Rattle.standard.specs.Adoption.{entry_of, furthest_of, Turn, block_at, blocked, scope_at, scoped, open_at, opened, entry_at, rounded, rounds, current_at, agency, few_nodes, adoption, leaves, misnested_at, misnested}
use Rattle.names.proofs.Members.{formatting_plain}
use Rattle.kept.specs.Keeps.{Keeps, either}
use Rattle.kept.specs.Room.{room_nodes}
use Rattle.kept.specs.Small.{cut_stack, same_sound}
use Rattle.kept.specs.Stack.{ended_sound}
use Rattle.kept.specs.Usual.{is_html_lem}
use Rattle.kept.specs.Adopt.{adopted_sound}
use Rattle.kept.specs.Leave.{without_stack, without_list}
use Rattle.kept.specs.Scope.{place_found, entry_found, formatting_ends}
use Rattle.kept.specs.Furthest.{blocked_at}

-- a node that is not the root is not the first of the stack
not_first : (f : Full) → SoundFull f → (n : ℕ) → n ≢ 2 → (i : ℕ) → at f.stack.held i ≡ n → 0 < i
not_first f s n d i e = by (dec_lt 0 i)
  where
    by : Dec (0 < i) → 0 < i
    by (yes h) = h
    by (no h) = let z : i ≡ 0 = omega arith in absurd (d (sym (rw z at e) ∙ s.sound.tree.stack.root))

-- ---- a node leaves stack and list

module _ (f : Full) (s : SoundFull f) (n : ℕ) where
  left_stack_lem : n ≢ 2 → SoundFull (with_stack f (left f.stack n))
  unfolding left left_at with_stack
  left_stack_lem d = by (place_of f.stack n) refl
    where
      by : (r : Option ℕ) → place_of f.stack n ≡ r → SoundFull (with_stack f (left_at r f.stack))
      by None e = s
      by (Some i) e =
          let t = place_found f.stack n i e in
          without_stack f s i (not_first f s n d i t.1) (omega (arith, t.0, s.stack.all))

  left_list : SoundFull (with_list f (left f.list n))
  unfolding left left_at with_list
  left_list = by (place_of f.list n) refl
    where
      by : (r : Option ℕ) → place_of f.list n ≡ r → SoundFull (with_list f (left_at r f.list))
      by None e = s
      by (Some i) e = without_list f s i (omega (arith, (place_found f.list n i e).0, s.list.all))

pub leaves_sound : (f : Full) → SoundFull f → (n : ℕ) → n ≢ 2 → SoundFull (leaves f n)
unfolding leaves with_stack
leaves_sound f s n d = left_list (with_stack f (left f.stack n)) (left_stack_lem f s n d) n

-- an entry that is no marker is not the root
pub entry_root : (f : Full) → SoundFull f → (j : ℕ) → j < f.list.size → at f.list.held j ≢ 2
unfolding formatting
entry_root f s j h e =
    let a = (s.sound.entries.entry j h).name (λ g. omega arith) in
    let b : field f.nodes.mem (at f.list.held j) NAME ≡ tag.html = rw e s.sound.tree.top.name in
    let z : ◌≡◌ {A = Bool} true false = sym a ∙ rw b in
    let n : ◌≡◌ {A = ℕ} 0 1 = cc in
    omega arith

-- "any other end tag"
end_sound : (f : Full) → SoundFull f → (name : ℕ) → bad_end_tag name ≡ false → SoundFull (with_stack f (end_tag f.nodes.mem f.stack name))
unfolding ended
end_sound f s name e = rw e at (ended_sound f s name)

-- ---- the rounds

-- after a round the state is sound, and if there is another, k nodes are free
record Kept (k : ℕ) (t : Turn) : Type 0 where
  sound : SoundFull t.after
  room : t.again ≡ true → t.after.nodes.used + k < slots NODES t.after.nodes.mem

-- the last round
over : (k : ℕ) {f : Full} → SoundFull f → Kept k (record { after = f; again = false })
over k s = record { sound = s; room = λ e. absurd (let z : ◌≡◌ {A = ℕ} 0 1 = cc in omega arith) }

module _ (k : ℕ) (f : Full) (o : SoundFull f) (room : f.nodes.used + (k + 4) < slots NODES f.nodes.mem) (name : ℕ) where
  -- 4.7, 4.8
  blocked_kept : (j s i : ℕ) → entry_of f.nodes.mem f.list name ≡ Some j → place_of f.stack (places.at f.list j) ≡ Some s
      → in_scope DefaultScope (same (places.at f.list j)) f.nodes.mem f.stack ≡ Some i → 0 < s → Kept k (blocked f (places.at f.list j) s j)
  unfolding blocked block_at with_stack
  blocked_kept j s i a b c z = by (furthest_of f.nodes.mem f.stack s) refl
    where
      l : j < f.list.size
      l = omega (arith, entry_found f.nodes.mem f.list name j a, o.list.all)

      by : (r : Option ℕ) → furthest_of f.nodes.mem f.stack s ≡ r → Kept k (block_at r f (places.at f.list j) s j)
      by None q =
          over k
          (without_list (with_stack f (cut f.stack s))
          (cut_stack f o s z (omega (arith, (place_found f.stack (places.at f.list j) s b).0, o.stack.all))) j l)
      by (Some p) q =
          let w = adopted_sound f o s j p (blocked_at f o name j s i p a b c q) (omega arith) in
          record { sound = w.sound; room = λ y. rw w.slots (omega (arith, w.used)) }

  -- 4.5
  scoped_kept : (j s : ℕ) → entry_of f.nodes.mem f.list name ≡ Some j → place_of f.stack (places.at f.list j) ≡ Some s → 0 < s
      → Kept k (scoped f (places.at f.list j) s j)
  unfolding scoped scope_at
  scoped_kept j s a b z = by (in_scope DefaultScope (same (places.at f.list j)) f.nodes.mem f.stack) refl
    where
      by : (r : Option ℕ) → in_scope DefaultScope (same (places.at f.list j)) f.nodes.mem f.stack ≡ r → Kept k (scope_at r f (places.at f.list j) s j)
      by None q = over k o
      by (Some i) q = blocked_kept j s i a b q z

  -- 4.4
  opened_kept : (j : ℕ) → entry_of f.nodes.mem f.list name ≡ Some j → Kept k (opened f j)
  unfolding opened open_at places.at
  opened_kept j a = by (place_of f.stack (at f.list.held j)) refl
    where
      l : j < f.list.size
      l = omega (arith, entry_found f.nodes.mem f.list name j a, o.list.all)

      by : (r : Option ℕ) → place_of f.stack (at f.list.held j) ≡ r → Kept k (open_at r f (at f.list.held j) j)
      by None q = over k (without_list f o j l)
      by (Some s) q =
          scoped_kept j s a q (not_first f o (at f.list.held j) (entry_root f o j l) s (place_found f.stack (at f.list.held j) s q).1)

  -- 4.3
  rounded_kept : is_in Formatting space.html name ≡ true → Kept k (rounded f name)
  unfolding rounded entry_at
  rounded_kept g = by (entry_of f.nodes.mem f.list name) refl
    where
      by : (r : Option ℕ) → entry_of f.nodes.mem f.list name ≡ r → Kept k (entry_at r f name)
      by None q = over k (end_sound f o name (formatting_ends name g))
      by (Some j) q = opened_kept j q

-- 4.1, 4.2
rounds_sound : (name : ℕ) → is_in Formatting space.html name ≡ true → (k : ℕ) (f : Full) → SoundFull f → f.nodes.used + 4 * k < slots NODES f.nodes.mem
    → SoundFull (rounds f name k)
unfolding rounds
rounds_sound name g zero f o h = o
rounds_sound name g (suc k) f o h = by (rounded f name).again refl (rounds_sound name g k (rounded f name).after)
  where
    w : Kept (4 * k) (rounded f name)
    w = rounded_kept (4 * k) f o (omega arith) name g

    by : (b : Bool) → (rounded f name).again ≡ b
        → (SoundFull (rounded f name).after → (rounded f name).after.nodes.used + 4 * k < slots NODES (rounded f name).after.nodes.mem
        → SoundFull (rounds (rounded f name).after name k))
        → SoundFull (cond b (rounds (rounded f name).after name k) (rounded f name).after)
    by true e r = r w.sound (w.room e)
    by false e r = w.sound

-- 2 and 3
agency_sound : (f : Full) → SoundFull f → f.nodes.used + 32 < slots NODES f.nodes.mem → (name : ℕ) → is_in Formatting space.html name ≡ true
    → SoundFull (agency f name)
unfolding agency current_at shorter current places.at
agency_sound f o h name g = by (is_html f.nodes.mem top name) refl
  where
    top : ℕ
    top = at f.stack.held (f.stack.size - 1)

    all : SoundFull (rounds f name 8)
    all = rounds_sound name g 8 f o (omega arith)

    -- the current node is not the root
    two : is_html f.nodes.mem top name ≡ true → Dec (1 < f.stack.size) → 1 < f.stack.size
    two e (yes d) = d
    two e (no d) =
        let z : f.stack.size - 1 ≡ 0 = omega arith in
        let a : field f.nodes.mem (at f.stack.held 0) NAME ≡ name = rw z at (is_html_lem f.nodes.mem top name e).name in
        let b : field f.nodes.mem (at f.stack.held 0) NAME ≡ tag.html = rw o.sound.tree.stack.root o.sound.tree.top.name in
        absurd (eqb-false name tag.html (formatting_plain name g).no_html (sym a ∙ b))

    pop : is_html f.nodes.mem top name ≡ true → (r : Option ℕ) → SoundFull (current_at r f name)
    pop e None = let d = two e (dec_lt 1 f.stack.size) in cut_stack f o (f.stack.size - 1) (omega arith) (omega arith)
    pop e (Some j) = all

    by : (b : Bool) → is_html f.nodes.mem top name ≡ b → SoundFull (cond b (current_at (place_of f.list top) f name) (rounds f name 8))
    by true e = pop e (place_of f.list top)
    by false e = all

enough : (f : Full) → few_nodes f ≡ false → f.nodes.used + 32 < slots NODES f.nodes.mem
unfolding few_nodes
enough f e = room_nodes f.nodes.mem f.nodes.used 32 (omega arith) e

-- 8
pub adoption_sound : (f : Full) → SoundFull f → (name : ℕ) → SoundFull (adoption f name).after
unfolding adoption
adoption_sound f o name = k.sound
  where
    k : Keeps (adoption f name)
    k =
        either (not (is_in Formatting space.html name)) (λ e. same_sound f o 2)
        (λ e. either (few_nodes f) (λ d. same_sound f o 4)
        (λ d. record { sound = agency_sound f o (enough f d) name (not-false (is_in Formatting space.html name) e) }))

-- 9
pub misnested_sound : (f : Full) → SoundFull f → SoundFull (misnested f).after
unfolding misnested misnested_at formatting places.at
misnested_sound f o = (by (entry_of f.nodes.mem f.list tag.a) refl).sound
  where
    by : (r : Option ℕ) → entry_of f.nodes.mem f.list tag.a ≡ r → Keeps (misnested_at r f)
    by None e = same_sound f o 0
    by (Some j) e =
        either (few_nodes f) (λ d. same_sound f o 4)
        (λ d. record {
          sound =
              leaves_sound (agency f tag.a) (agency_sound f o (enough f d) tag.a refl) (at f.list.held j)
              (entry_root f o j (omega (arith, entry_found f.nodes.mem f.list tag.a j e, o.list.all)));
        })

-- What the searches of the adoption agency find: an entry in scope has no element of the scope after it. And that formatting names have
-- end tags, and none has not.
-- Assumes nothing.
use Rattle.std.specs.Prelude.{ℕ, zero, suc, ◌<◌, ◌≡◌, refl, Bool, true, false, cond, List, length, get_or, None, Option, Some}
use Rattle.std.proofs.Common.{sym, ◌∙◌, arith, eqb-true}
use Rattle.std.proofs.Math.Decide.{ℕ_discrete}
use Rattle.names.specs.Space as space
use Rattle.names.specs.Tag as tag
use Rattle.names.specs.Numbers.{none, is_name}
use Rattle.names.specs.Sets.{is_in, Formatting, Special, DefaultScope, default_scope}
use Rattle.names.proofs.Known.{none_no_name}
use Rattle.places.specs.Places.{Places, down, same, never, last_with, place_of}
use Rattle.places.proofs.Laws.{never_at, at_at, down_last}
use Rattle.state.specs.Full.{Full}
use Rattle.sound.specs.State.{SoundFull}
use Rattle.standard.specs.Html.{is_html}
use Rattle.standard.specs.Small.{MARKER}
use Rattle.standard.specs.Place.{is_foster_stop}
use Rattle.standard.specs.Stack.{is_of, named, in_scope, bad_end_tag, ended_at, end_tag}
use Rattle.standard.specs.Adoption.{entry_of}
use Rattle.names.proofs.Members.{formatting_plain}
use Rattle.kept.specs.Same.{open_used}
use Rattle.kept.specs.Usual.{is_html_lem}

-- ---- the search for a node, and for an entry of the list by its name

pub place_found : (p : Places) (n i : ℕ) → place_of p n ≡ Some i → (i < length p.held) × (get_or p.held i 0 ≡ n)
unfolding place_of last_with
place_found p n i e =
    let t = down_last (same n) never p.held (length p.held) i e in
    (t.below, eqb-true (get_or p.held i 0) n t.has)

pub entry_found : (m : List ℕ) (p : Places) (name i : ℕ) → entry_of m p name ≡ Some i → i < length p.held
unfolding entry_of last_with
entry_found m p name i e = (down_last (named m name) (same MARKER) p.held (length p.held) i e).below

-- ---- the search for an entry in scope

pub down_clear : (hit stop : ℕ → Bool) (h : List ℕ) (k i : ℕ) → down hit stop h k ≡ Some i → (j : ℕ) → i < j → j < k → stop (get_or h j 0) ≡ false
unfolding down
down_clear hit stop h zero i e j a b = absurd (omega arith)
down_clear hit stop h (suc k) i e j a b = by (hit (get_or h k 0)) (stop (get_or h k 0)) refl e (down_clear hit stop h k i)
  where
    by : (p q : Bool) → stop (get_or h k 0) ≡ q → cond p (Some k) (cond q None (down hit stop h k)) ≡ Some i
        → (down hit stop h k ≡ Some i → (j : ℕ) → i < j → j < k → stop (get_or h j 0) ≡ false) → stop (get_or h j 0) ≡ false
    by true q s g r = let z : k ≡ i = at_at k i g in absurd (omega arith)
    by false true s g r = absurd (never_at i g)
    by false false s g r = last (ℕ_discrete j k)
      where
        last : Dec (j ≡ k) → stop (get_or h j 0) ≡ false
        last (yes z) = rw z s
        last (no z) = r g j a (omega arith)

-- ---- names

-- tables and templates are of the default scope
scope_html : (m : List ℕ) (n name : ℕ) → is_in DefaultScope space.html name ≡ true → is_of DefaultScope m n ≡ false → is_html m n name ≡ false
unfolding is_of
scope_html m n name g e = by (is_html m n name) refl
  where
    by : (b : Bool) → is_html m n name ≡ b → b ≡ false
    by true h =
        let w = is_html_lem m n name h in
        sym (rw (w.kind, w.space, w.name, g)) ∙ e
    by false h = refl

pub scope_stop : (m : List ℕ) (n : ℕ) → is_of DefaultScope m n ≡ false → is_foster_stop m n ≡ false
unfolding is_foster_stop default_scope
scope_stop m n e = rw (scope_html m n tag.template refl e, scope_html m n tag.table refl e)

pub formatting_ends : (name : ℕ) → is_in Formatting space.html name ≡ true → bad_end_tag name ≡ false
unfolding bad_end_tag
formatting_ends name e =
    let k = formatting_plain name e in
    rw (k.known, k.no_html)

-- no open element is without a name: the steps of "any other end tag" for name 0 end nothing
pub end_tag_none : (f : Full) → SoundFull f → end_tag f.nodes.mem f.stack none ≡ f.stack
unfolding end_tag ended_at in_scope last_with
end_tag_none f o = by (down (named m none) (is_of Special m) h (length h)) refl
  where
    m : List ℕ
    m = f.nodes.mem

    h : List ℕ
    h = f.stack.held

    by : (q : Option ℕ) → down (named m none) (is_of Special m) h (length h) ≡ q → ended_at q m f.stack none ≡ f.stack
    by None e = refl
    by (Some i) e =
        let t = down_last (named m none) (is_of Special m) h (length h) i e in
        let w = is_html_lem m (get_or h i 0) none t.has in
        let u = open_used o.sound i (omega (arith, t.below, o.stack.all)) in
        let k : is_name none ≡ true = rw w.name at ((o.sound.tree.kinds.kind (get_or h i 0) u.0 u.1).element w.kind).tag.named in
        let x : true ≡ false = sym k ∙ none_no_name in
        absurd (let z : ◌≡◌ {A = ℕ} 0 1 = cc in omega arith)

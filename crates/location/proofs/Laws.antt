-- The cases of the definitions on elements and places, as the code meets them: x, y, z are the numbers that were read.
-- Assumes nothing.
use Rattle.std.proofs.Common.{ℕ, ◌-◌, ◌<◌, ◌≡◌, sym, ◌∙◌, Bool, true, false, List, get_or, eq-eqb, ne_eqb, None, Option}
use Rattle.names.specs.Tag as tag
use Rattle.lent.specs.Mem.{field, PARENT}
use Rattle.state.specs.declared.Core.{Core}
use Rattle.state.specs.declared.Context.{Context}
use Rattle.state.specs.Full.{full}
use Rattle.small.proofs.Laws.{current_of}
use Rattle.standard.specs.Insertion.{usual_place}
use Rattle.places.specs.Places.{Places, places_of, at, last_with, never}
use Rattle.standard.specs.Html.{is_html}
use Rattle.standard.specs.Place.{end_of, before_table, table_place, template_or_table, is_foster_stop, foster_at, foster_place, appropriate_place}
use Rattle.standard.specs.declared.Place.{Place}

-- ---- places

module _ (m : List ℕ) (s : Places) (i : ℕ) {t : ℕ} (et : t ≡ at s i) where
  pub table_loose : {x u : ℕ} → x ≡ field m t PARENT → x ≡ 0 → u ≡ at s (i - 1) → end_of m u ≡ table_place m s i
  unfolding table_place
  table_loose ex h eu = rw (← et, ← ex, eq-eqb _ 0 h, eu)

  pub table_parent : {x : ℕ} → x ≡ field m t PARENT → (x ≡ 0 → ⊥) → before_table m t ≡ table_place m s i
  unfolding table_place
  table_parent ex h = rw (← et, ← ex, ne_eqb _ 0 h)

  pub is_template_lem : {b : Bool} → b ≡ is_html m t tag.template → b ≡ true → end_of m t ≡ template_or_table m s i
  unfolding template_or_table
  is_template_lem eb h = rw (← et, sym eb ∙ h)

  pub is_table : {b : Bool} → b ≡ is_html m t tag.template → b ≡ false → table_place m s i ≡ template_or_table m s i
  unfolding template_or_table
  is_table eb h = rw (← et, sym eb ∙ h)

pub foster_none : (m : List ℕ) (s : Places) {o : Option ℕ} {t : ℕ} → o ≡ last_with (is_foster_stop m) never s → o ≡ None → t ≡ at s 0 → end_of m t ≡ foster_place m s
unfolding foster_place foster_at
foster_none m s eo h et = rw (sym eo ∙ h, et)

-- ---- the usual place: the current node is the target

pub usual_is : (s l m p q : List ℕ) (x : Option Context) (c : Core) (n : List ℕ) {r : Place} → 0 < c.depth → r ≡ appropriate_place n (places_of s c.depth) c.flags.foster (get_or s (c.depth - 1) 0)
    → r ≡ usual_place (full s c x n l m p q)
unfolding usual_place
usual_is s l m p q x c n h e = e ∙ rw (current_of s c.depth h)

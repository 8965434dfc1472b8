-- One entry of the stack in a reset: it decides, and is a template, exactly where its name says so.
-- Assumes nothing.
use Rattle.std.proofs.Common.{ℕ, ◌≡◌, refl, Bool, true, false, cond, ◌&&◌, ◌||◌, eqb, eqb-true, None, Option, Some}
use Rattle.names.specs.Space as space
use Rattle.names.specs.Tag as tag
use Rattle.names.specs.Sets.{member}
use Rattle.queries.specs.declared.reset.Reset.{Reset}
use Rattle.queries.specs.declared.reset.Reset.TheVariants.{Mode, Template}
use Rattle.queries.specs.Element.{Expanded}
use Rattle.queries.specs.Reset.{BEFORE_HEAD, AFTER_HEAD, IN_CELL, IN_ROW, IN_TABLE_BODY, IN_CAPTION, IN_COLUMN_GROUP, IN_TABLE, IN_HEAD, IN_BODY, IN_FRAMESET, mode_for, mode_at}
use Rattle.interface.specs.Questions.{deciding, decides, is_template}

-- what a step is, d being whether its entry decides and t whether that is a template
pub data Fits (t : Bool) : Option Reset → Bool → Type 0 where
  mode : {v : ℕ} → t ≡ false → Fits t (Some (Mode v)) true
  template : t ≡ true → Fits t (Some Template) true
  next : Fits t None false

module _ (v : ℕ) {t : Bool} {s : Option Reset} {d : Bool} where
  -- one name, and some
  fits_1 : (a : Bool) → (a ≡ true → t ≡ false) → Fits t s d → Fits t (cond a (Some (Mode v)) s) (a || d)
  fits_1 true p r = mode (p refl)
  fits_1 false p r = r

  fits_3 : (a b c : Bool) → (a ≡ true → t ≡ false) → (b ≡ true → t ≡ false) → (c ≡ true → t ≡ false) → Fits t s d
      → Fits t (cond (a || (b || c)) (Some (Mode v)) s) (a || (b || (c || d)))
  fits_3 true b c p q o r = mode (p refl)
  fits_3 false true c p q o r = mode (q refl)
  fits_3 false false true p q o r = mode (o refl)
  fits_3 false false false p q o r = r

  -- not last
  fits_2_not : (a b : Bool) → (a ≡ true → t ≡ false) → (b ≡ true → t ≡ false) → Fits t s d → Fits t (cond ((a || b) && true) (Some (Mode v)) s) (a || (b || d))
  fits_2_not true b p q r = mode (p refl)
  fits_2_not false true p q r = mode (q refl)
  fits_2_not false false p q r = r

  fits_1_not : (a : Bool) → (a ≡ true → t ≡ false) → Fits t s d → Fits t (cond (a && true) (Some (Mode v)) s) (a || d)
  fits_1_not true p r = mode (p refl)
  fits_1_not false p r = r

  -- last
  fits_last : (a : Bool) → Fits t s d → Fits t (cond (a && false) (Some (Mode v)) s) d
  fits_last true r = r
  fits_last false r = r

fits_template : (t : Bool) {s : Option Reset} {d : Bool} → Fits t s d → Fits t (cond t (Some Template) s) (t || d)
fits_template true r = template refl
fits_template false r = r

-- a name that is another's is not `template`
other : (name x : ℕ) → eqb x tag.template ≡ false → eqb name x ≡ true → eqb name tag.template ≡ false
other name x d e = rw (eqb-true name x e) d

module _ (head name : ℕ) where
  -- from step 12 on
  fits_late : Fits (eqb name tag.template)
      (cond (eqb name tag.body) (Some (Mode IN_BODY)) (cond (eqb name tag.frameset) (Some (Mode IN_FRAMESET)) (cond (eqb name tag.html) (Some (Mode (cond (eqb head 0) BEFORE_HEAD AFTER_HEAD))) None)))
      (eqb name tag.body || (eqb name tag.frameset || (eqb name tag.html || false)))
  fits_late =
      fits_1 IN_BODY (eqb name tag.body) (other name tag.body refl)
      (fits_1 IN_FRAMESET (eqb name tag.frameset) (other name tag.frameset refl)
      (fits_1 (cond (eqb head 0) BEFORE_HEAD AFTER_HEAD) (eqb name tag.html) (other name tag.html refl) next))

  -- steps 5 to 10
  module _ {s : Option Reset} {d : Bool} (rest : Fits (eqb name tag.template) s d) where
    fits_middle : Fits (eqb name tag.template)
        (cond (eqb name tag.tr) (Some (Mode IN_ROW))
        (cond (eqb name tag.tbody || (eqb name tag.thead || eqb name tag.tfoot)) (Some (Mode IN_TABLE_BODY))
        (cond (eqb name tag.caption) (Some (Mode IN_CAPTION))
        (cond (eqb name tag.colgroup) (Some (Mode IN_COLUMN_GROUP))
        (cond (eqb name tag.table) (Some (Mode IN_TABLE))
        (cond (eqb name tag.template) (Some Template) s))))))
        (eqb name tag.tr || (eqb name tag.tbody || (eqb name tag.thead || (eqb name tag.tfoot || (eqb name tag.caption || (eqb name tag.colgroup || (eqb name tag.table || (eqb name tag.template || d))))))))
    fits_middle =
        fits_1 IN_ROW (eqb name tag.tr) (other name tag.tr refl)
        (fits_3 IN_TABLE_BODY (eqb name tag.tbody) (eqb name tag.thead) (eqb name tag.tfoot) (other name tag.tbody refl) (other name tag.thead refl) (other name tag.tfoot refl)
        (fits_1 IN_CAPTION (eqb name tag.caption) (other name tag.caption refl)
        (fits_1 IN_COLUMN_GROUP (eqb name tag.colgroup) (other name tag.colgroup refl)
        (fits_1 IN_TABLE (eqb name tag.table) (other name tag.table refl)
        (fits_template (eqb name tag.template) rest)))))

  fits_name : (last : Bool) → Fits (eqb name tag.template) (mode_for head last name) (member name (deciding last))
  unfolding mode_for deciding
  fits_name true =
      fits_last IN_CELL (eqb name tag.td || eqb name tag.th) (fits_middle (fits_last IN_HEAD (eqb name tag.head) fits_late))
  fits_name false =
      fits_2_not IN_CELL (eqb name tag.td) (eqb name tag.th) (other name tag.td refl) (other name tag.th refl)
      (fits_middle (fits_1_not IN_HEAD (eqb name tag.head) (other name tag.head refl) fits_late))

pub fits_entry : (head : ℕ) (last : Bool) (e : Expanded) → Fits (is_template e) (mode_at head last e) (decides last e)
unfolding mode_at is_template decides
fits_entry head last e = by (eqb e.space space.html)
  where
    by : (b : Bool) → Fits (b && eqb e.name tag.template) (cond b (mode_for head last e.name) None) (b && member e.name (deciding last))
    by true = fits_name head e.name last
    by false = next

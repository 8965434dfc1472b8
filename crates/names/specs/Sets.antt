-- The sets of document 01, by namespace and name, and the integration points.
-- `tools/names.py` reads the members from here, and makes the words of `src/words.rt` of them.
-- Assumes nothing.
use Rattle.std.specs.Prelude.{ℕ, zero, suc, Bool, false, ◌||◌, ◌&&◌, List, [], ◌∷◌, ◌++◌, eqb}
use Rattle.names.specs.Space as space
use Rattle.names.specs.Tag as tag

abbrev pub member : ℕ → List ℕ → Bool
member n [] = false
member n (x ∷ xs) = eqb n x || member n xs

-- a set: its HTML, MathML and SVG names
pub record Names : Type 0 where
  pub html : List ℕ
  pub math : List ℕ
  pub svg : List ℕ

-- the names of a set in a namespace: none past the three
abbrev pub names_in : Names → ℕ → List ℕ
names_in s zero = s.html
names_in s (suc zero) = s.math
names_in s (suc (suc zero)) = s.svg
names_in s (suc (suc (suc ns))) = []

abbrev pub is_in : Names → ℕ → ℕ → Bool
is_in s ns n = member n (names_in s ns)

-- Formatting (the standard, 13.2.4.2)
unfoldable pub formatting : List ℕ
formatting =
    tag.a ∷ tag.b ∷ tag.big ∷ tag.code ∷ tag.em ∷ tag.font ∷ tag.i ∷ tag.nobr ∷ tag.s ∷ tag.small ∷ tag.strike ∷
    tag.strong ∷ tag.tt ∷ tag.u ∷ []

-- Special (the standard, 13.2.4.2)
unfoldable pub special : List ℕ
special =
    tag.address ∷ tag.applet ∷ tag.area ∷ tag.article ∷ tag.aside ∷ tag.base ∷ tag.basefont ∷ tag.bgsound ∷
    tag.blockquote ∷ tag.body ∷ tag.br ∷ tag.button ∷ tag.caption ∷ tag.center ∷ tag.col ∷ tag.colgroup ∷ tag.dd ∷
    tag.details ∷ tag.dir ∷ tag.div ∷ tag.dl ∷ tag.dt ∷ tag.embed ∷ tag.fieldset ∷ tag.figcaption ∷ tag.figure ∷
    tag.footer ∷ tag.form ∷ tag.frame ∷ tag.frameset ∷ tag.h1 ∷ tag.h2 ∷ tag.h3 ∷ tag.h4 ∷ tag.h5 ∷ tag.h6 ∷ tag.head ∷
    tag.header ∷ tag.hgroup ∷ tag.hr ∷ tag.html ∷ tag.iframe ∷ tag.img ∷ tag.input ∷ tag.keygen ∷ tag.li ∷ tag.link ∷
    tag.listing ∷ tag.main ∷ tag.marquee ∷ tag.menu ∷ tag.meta ∷ tag.nav ∷ tag.noembed ∷ tag.noframes ∷ tag.noscript ∷
    tag.object ∷ tag.ol ∷ tag.p ∷ tag.param ∷ tag.plaintext ∷ tag.pre ∷ tag.script ∷ tag.search ∷ tag.section ∷
    tag.select ∷ tag.source ∷ tag.style ∷ tag.summary ∷ tag.table ∷ tag.tbody ∷ tag.td ∷ tag.template ∷ tag.textarea ∷
    tag.tfoot ∷ tag.th ∷ tag.thead ∷ tag.title ∷ tag.tr ∷ tag.track ∷ tag.ul ∷ tag.wbr ∷ tag.xmp ∷ []

-- MathML text integration points (the standard, 13.2.6)
unfoldable pub math_text_points : List ℕ
math_text_points = tag.mi ∷ tag.mo ∷ tag.mn ∷ tag.ms ∷ tag.mtext ∷ []

-- the MathML and SVG names that are special and in the scopes
unfoldable pub math_points : List ℕ
math_points = math_text_points ++ tag.annotation_xml ∷ []

unfoldable pub svg_points : List ℕ
svg_points = tag.foreign_object ∷ tag.desc ∷ tag.title ∷ []

-- Default scope, and what list-item scope and button scope add to it (the standard, 13.2.4.2)
unfoldable pub default_scope : List ℕ
default_scope =
    tag.applet ∷ tag.caption ∷ tag.html ∷ tag.table ∷ tag.td ∷ tag.th ∷ tag.marquee ∷ tag.object ∷ tag.template ∷ []

unfoldable pub list_item_adds : List ℕ
list_item_adds = tag.ol ∷ tag.ul ∷ []

unfoldable pub button_adds : List ℕ
button_adds = tag.button ∷ []

-- Table scope
unfoldable pub table_scope : List ℕ
table_scope = tag.html ∷ tag.table ∷ tag.template ∷ []

-- Implied end, cursory, and what thorough adds (the standard, 13.2.6.3)
unfoldable pub cursory : List ℕ
cursory = tag.dd ∷ tag.dt ∷ tag.li ∷ tag.optgroup ∷ tag.option ∷ tag.p ∷ tag.rb ∷ tag.rp ∷ tag.rt ∷ tag.rtc ∷ []

unfoldable pub thorough_adds : List ℕ
thorough_adds = tag.caption ∷ tag.colgroup ∷ tag.tbody ∷ tag.td ∷ tag.tfoot ∷ tag.th ∷ tag.thead ∷ tag.tr ∷ []

-- the targets that foster parenting moves a node away from (the standard, 13.2.6.1)
unfoldable pub foster_targets : List ℕ
foster_targets = tag.table ∷ tag.tbody ∷ tag.tfoot ∷ tag.thead ∷ tag.tr ∷ []

abbrev pub Formatting : Names
Formatting = record { html = formatting; math = []; svg = [] }

abbrev pub Special : Names
Special = record { html = special; math = math_points; svg = svg_points }

abbrev pub DefaultScope : Names
DefaultScope = record { html = default_scope; math = math_points; svg = svg_points }

abbrev pub ListItemScope : Names
ListItemScope = record { html = default_scope ++ list_item_adds; math = math_points; svg = svg_points }

abbrev pub ButtonScope : Names
ButtonScope = record { html = default_scope ++ button_adds; math = math_points; svg = svg_points }

abbrev pub TableScope : Names
TableScope = record { html = table_scope; math = []; svg = [] }

abbrev pub Cursory : Names
Cursory = record { html = cursory; math = []; svg = [] }

abbrev pub Thorough : Names
Thorough = record { html = cursory ++ thorough_adds; math = []; svg = [] }

abbrev pub FosterTargets : Names
FosterTargets = record { html = foster_targets; math = []; svg = [] }

abbrev pub MathTextPoints : Names
MathTextPoints = record { html = []; math = math_text_points; svg = [] }

abbrev pub SvgPoints : Names
SvgPoints = record { html = []; math = []; svg = svg_points }

-- one of the sets above: what holds of every set is said over it
pub data OneOf : Names → Type 0 where
  the_formatting : OneOf Formatting
  the_special : OneOf Special
  the_default_scope : OneOf DefaultScope
  the_list_item_scope : OneOf ListItemScope
  the_button_scope : OneOf ButtonScope
  the_table_scope : OneOf TableScope
  the_cursory : OneOf Cursory
  the_thorough : OneOf Thorough
  the_foster_targets : OneOf FosterTargets
  the_math_text_points : OneOf MathTextPoints
  the_svg_points : OneOf SvgPoints

-- HTML integration points (the standard, 13.2.6): the SVG ones, and a MathML annotation-xml with the mark 1
unfoldable pub is_html_point : ℕ → ℕ → ℕ → Bool
is_html_point ns n mark = is_in SvgPoints ns n || (eqb ns space.mathml && (eqb n tag.annotation_xml && eqb mark 1))

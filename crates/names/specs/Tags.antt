-- Written by tools/names.py from names.txt and specs/Sets.antt.
-- All constants of `Tag`, in the table's order, in parts of 30 at most.
-- Assumes nothing.
use Rattle.std.specs.Prelude.{ℕ, List, [], ◌∷◌, ◌++◌}
use Rattle.names.specs.Tag as tag

abbrev pub tags1 : List ℕ
tags1 =
    tag.a ∷ tag.address ∷ tag.annotation_xml ∷ tag.applet ∷ tag.area ∷ tag.article ∷ tag.aside ∷ tag.b ∷ tag.base ∷
    tag.basefont ∷ tag.bgsound ∷ tag.big ∷ tag.blockquote ∷ tag.body ∷ tag.br ∷ tag.button ∷ tag.caption ∷ tag.center ∷
    tag.code ∷ tag.col ∷ tag.colgroup ∷ tag.color ∷ tag.dd ∷ tag.desc ∷ tag.details ∷ tag.dialog ∷ []

abbrev pub tags2 : List ℕ
tags2 =
    tag.dir ∷ tag.div ∷ tag.dl ∷ tag.dt ∷ tag.em ∷ tag.embed ∷ tag.encoding ∷ tag.face ∷ tag.fieldset ∷ tag.figcaption ∷
    tag.figure ∷ tag.font ∷ tag.footer ∷ tag.foreign_object ∷ tag.form ∷ tag.frame ∷ tag.frameset ∷ tag.h1 ∷ tag.h2 ∷
    tag.h3 ∷ tag.h4 ∷ tag.h5 ∷ tag.h6 ∷ tag.head ∷ tag.header ∷ tag.hgroup ∷ []

abbrev pub tags3 : List ℕ
tags3 =
    tag.hr ∷ tag.html ∷ tag.i ∷ tag.iframe ∷ tag.image ∷ tag.img ∷ tag.input ∷ tag.keygen ∷ tag.li ∷ tag.link ∷
    tag.listing ∷ tag.main ∷ tag.malignmark ∷ tag.marquee ∷ tag.math ∷ tag.menu ∷ tag.meta ∷ tag.mglyph ∷ tag.mi ∷
    tag.mn ∷ tag.mo ∷ tag.ms ∷ tag.mtext ∷ tag.nav ∷ tag.nobr ∷ tag.noembed ∷ []

abbrev pub tags4 : List ℕ
tags4 =
    tag.noframes ∷ tag.noscript ∷ tag.object ∷ tag.ol ∷ tag.optgroup ∷ tag.option ∷ tag.p ∷ tag.param ∷ tag.plaintext ∷
    tag.pre ∷ tag.rb ∷ tag.rp ∷ tag.rt ∷ tag.rtc ∷ tag.ruby ∷ tag.s ∷ tag.sarcasm ∷ tag.script ∷ tag.search ∷
    tag.section ∷ tag.select ∷ tag.selectedcontent ∷ tag.size ∷ tag.small ∷ tag.source ∷ tag.span ∷ []

abbrev pub tags5 : List ℕ
tags5 =
    tag.strike ∷ tag.strong ∷ tag.style ∷ tag.sub ∷ tag.summary ∷ tag.sup ∷ tag.svg ∷ tag.table ∷ tag.tbody ∷ tag.td ∷
    tag.template ∷ tag.textarea ∷ tag.tfoot ∷ tag.th ∷ tag.thead ∷ tag.title ∷ tag.tr ∷ tag.track ∷ tag.tt ∷ tag.type ∷
    tag.u ∷ tag.ul ∷ tag.var ∷ tag.wbr ∷ tag.xmp ∷ []

abbrev pub all_tags : List ℕ
all_tags = tags1 ++ tags2 ++ tags3 ++ tags4 ++ tags5

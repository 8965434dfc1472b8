-- Written by tools/names.py from names.txt and specs/Sets.antt.
-- The words of each set, and two tests, each computed once for each set: the words agree with the members at every name
-- that they have a bit for, and the members are names of the table.
-- Assumes nothing.
use Rattle.std.proofs.Common.{List, [], ◌∷◌, ℕ, T}
use Rattle.names.specs.Numbers.{in_table}
use Rattle.names.specs.Sets.{Names, OneOf}
use Rattle.names.specs.Sets.{formatting, special, math_text_points, math_points, svg_points, default_scope, list_item_adds, button_adds, table_scope, cursory, thorough_adds, foster_targets}
use Rattle.names.specs.Sets.{the_formatting, the_special, the_default_scope, the_list_item_scope, the_button_scope, the_table_scope, the_cursory, the_thorough, the_foster_targets, the_math_text_points, the_svg_points}
use Rattle.names.proofs.Agree.{agree}
use Rattle.names.proofs.Members.{everywhere}

-- the words, as `src/words.rt` has them
abbrev pub words_of : {s : Names} → OneOf s → List ℕ
words_of the_formatting =
    0x4001010000002 ∷ 0x20 ∷ 0x4000001 ∷ 0x4000 ∷ 0x6000100020 ∷ 0xa0 ∷ 0x0 ∷ 0x0 ∷ 0x0 ∷ 0x0 ∷ 0x0 ∷ 0x0 ∷ 0x0 ∷ 0x0 ∷
    0x0 ∷ 0x0 ∷ 0x0 ∷ 0x0 ∷ []
words_of the_special =
    0x889819e920740010 ∷ 0x3800000000000047 ∷ 0x40708100d17fe072 ∷ 0x4080633a030 ∷ 0x9381028000200780 ∷ 0x2000411f ∷
    0x20000 ∷ 0x0 ∷ 0x0 ∷ 0xf80 ∷ 0x0 ∷ 0x0 ∷ 0x400000000000000 ∷ 0x0 ∷ 0x4 ∷ 0x0 ∷ 0x0 ∷ 0x4 ∷ []
words_of the_default_scope =
    0x80000040000 ∷ 0x0 ∷ 0x4000000001000000 ∷ 0x100000 ∷ 0x301000000000000 ∷ 0x1 ∷ 0x20000 ∷ 0x0 ∷ 0x0 ∷ 0xf80 ∷ 0x0 ∷
    0x0 ∷ 0x400000000000000 ∷ 0x0 ∷ 0x4 ∷ 0x0 ∷ 0x0 ∷ 0x4 ∷ []
words_of the_list_item_scope =
    0x80000040000 ∷ 0x0 ∷ 0x4000000001000000 ∷ 0x300000 ∷ 0x301000000000000 ∷ 0x101 ∷ 0x20000 ∷ 0x0 ∷ 0x0 ∷ 0xf80 ∷
    0x0 ∷ 0x0 ∷ 0x400000000000000 ∷ 0x0 ∷ 0x4 ∷ 0x0 ∷ 0x0 ∷ 0x4 ∷ []
words_of the_button_scope =
    0x90000040000 ∷ 0x0 ∷ 0x4000000001000000 ∷ 0x100000 ∷ 0x301000000000000 ∷ 0x1 ∷ 0x20000 ∷ 0x0 ∷ 0x0 ∷ 0xf80 ∷ 0x0 ∷
    0x0 ∷ 0x400000000000000 ∷ 0x0 ∷ 0x4 ∷ 0x0 ∷ 0x0 ∷ 0x4 ∷ []
words_of the_table_scope =
    0x0 ∷ 0x0 ∷ 0x1000000 ∷ 0x0 ∷ 0x201000000000000 ∷ 0x0 ∷ 0x0 ∷ 0x0 ∷ 0x0 ∷ 0x0 ∷ 0x0 ∷ 0x0 ∷ 0x0 ∷ 0x0 ∷ 0x0 ∷ 0x0 ∷
    0x0 ∷ 0x0 ∷ []
words_of the_cursory =
    0x80000000000000 ∷ 0x4 ∷ 0x800000000000 ∷ 0x8000002c00000 ∷ 0xe ∷ 0x0 ∷ 0x0 ∷ 0x0 ∷ 0x0 ∷ 0x0 ∷ 0x0 ∷ 0x0 ∷ 0x0 ∷
    0x0 ∷ 0x0 ∷ 0x0 ∷ 0x0 ∷ 0x0 ∷ []
words_of the_thorough =
    0x90080000000000 ∷ 0x4 ∷ 0x800000000000 ∷ 0x8000002c00000 ∷ 0x818000000000000e ∷ 0xb ∷ 0x0 ∷ 0x0 ∷ 0x0 ∷ 0x0 ∷ 0x0 ∷
    0x0 ∷ 0x0 ∷ 0x0 ∷ 0x0 ∷ 0x0 ∷ 0x0 ∷ 0x0 ∷ []
words_of the_foster_targets =
    0x0 ∷ 0x0 ∷ 0x0 ∷ 0x0 ∷ 0x8081000000000000 ∷ 0xa ∷ 0x0 ∷ 0x0 ∷ 0x0 ∷ 0x0 ∷ 0x0 ∷ 0x0 ∷ 0x0 ∷ 0x0 ∷ 0x0 ∷ 0x0 ∷ 0x0 ∷
    0x0 ∷ []
words_of the_math_text_points =
    0x0 ∷ 0x0 ∷ 0x0 ∷ 0x0 ∷ 0x0 ∷ 0x0 ∷ 0x0 ∷ 0x0 ∷ 0x0 ∷ 0xf80 ∷ 0x0 ∷ 0x0 ∷ 0x0 ∷ 0x0 ∷ 0x0 ∷ 0x0 ∷ 0x0 ∷ 0x0 ∷ []
words_of the_svg_points =
    0x0 ∷ 0x0 ∷ 0x0 ∷ 0x0 ∷ 0x0 ∷ 0x0 ∷ 0x0 ∷ 0x0 ∷ 0x0 ∷ 0x0 ∷ 0x0 ∷ 0x0 ∷ 0x400000000000000 ∷ 0x0 ∷ 0x4 ∷ 0x0 ∷ 0x0 ∷
    0x4 ∷ []

pub agrees : {s : Names} (t : OneOf s) → T (agree (words_of t) s)
unfolding agree formatting special math_text_points math_points svg_points default_scope list_item_adds button_adds table_scope cursory thorough_adds foster_targets
agrees the_formatting = tt
agrees the_special = tt
agrees the_default_scope = tt
agrees the_list_item_scope = tt
agrees the_button_scope = tt
agrees the_table_scope = tt
agrees the_cursory = tt
agrees the_thorough = tt
agrees the_foster_targets = tt
agrees the_math_text_points = tt
agrees the_svg_points = tt

pub listed : {s : Names} → OneOf s → T (everywhere in_table s)
unfolding everywhere in_table formatting special math_text_points math_points svg_points default_scope list_item_adds button_adds table_scope cursory thorough_adds foster_targets
listed the_formatting = tt
listed the_special = tt
listed the_default_scope = tt
listed the_list_item_scope = tt
listed the_button_scope = tt
listed the_table_scope = tt
listed the_cursory = tt
listed the_thorough = tt
listed the_foster_targets = tt
listed the_math_text_points = tt
listed the_svg_points = tt

-- 13.2.6, the tree construction dispatcher: whether a token is processed by the rules for foreign content.
-- Assumes nothing.
use Rattle.std.specs.Prelude.{ℕ, zero, suc, ◌-◌, Bool, true, false, cond, not, ◌&&◌, ◌||◌, List, eqb, ltb, leb, Option, Result as OkOrErr, Ok, Err}
use Rattle.names.specs.Numbers.{is_name}
use Rattle.names.specs.Space as space
use Rattle.names.specs.Tag as tag
use Rattle.names.specs.Sets.{is_in, MathTextPoints, is_html_point}
use Rattle.places.specs.Places.{Places, at}
use Rattle.state.specs.declared.Context.{Context}
use Rattle.state.specs.Full.{Full}
use Rattle.records.specs.declared.refusal.Refusal.{Refusal}
use Rattle.records.specs.declared.refusal.Refusal.TheVariants.{Unknown}
use Rattle.queries.specs.declared.foreign.TokenKind.{TokenKind}
use Rattle.queries.specs.declared.foreign.TokenKind.TheVariants.{StartTag, EndTag, Characters, Null, Comment, EndOfFile}
use Rattle.queries.specs.Told.{Asked, told, refused}
use Rattle.queries.specs.Element.{Expanded, standing}

-- the kinds of tokens
abbrev pub START_TAG : ℕ
START_TAG = 0

abbrev pub END_TAG : ℕ
END_TAG = 1

abbrev pub CHARACTERS : ℕ
CHARACTERS = 2

abbrev pub NULL : ℕ
NULL = 3

abbrev pub END_OF_FILE : ℕ
END_OF_FILE = 5

-- the same as an enum
abbrev pub kind_number : TokenKind → ℕ
kind_number StartTag = 0
kind_number EndTag = 1
kind_number Characters = 2
kind_number Null = 3
kind_number Comment = 4
kind_number EndOfFile = 5

abbrev pub kind_of : ℕ → OkOrErr TokenKind Refusal
kind_of zero = Ok StartTag
kind_of (suc zero) = Ok EndTag
kind_of (suc (suc zero)) = Ok Characters
kind_of (suc (suc (suc zero))) = Ok Null
kind_of (suc (suc (suc (suc zero)))) = Ok Comment
kind_of (suc (suc (suc (suc (suc zero))))) = Ok EndOfFile
kind_of (suc (suc (suc (suc (suc (suc n)))))) = Err Unknown

-- answer 2: an unknown kind; a tag without a known name; a name for anything but a tag
unfoldable pub bad_token : ℕ → ℕ → Bool
bad_token kind name = ltb END_OF_FILE kind || cond (leb kind END_TAG) (not (is_name name)) (not (eqb name 0))

-- "a character token": a null character is one
unfoldable pub is_characters : ℕ → Bool
is_characters kind = eqb kind CHARACTERS || eqb kind NULL

-- "a start tag whose tag name is neither mglyph nor malignmark"
unfoldable pub is_plain_start : ℕ → ℕ → Bool
is_plain_start kind name = eqb kind START_TAG && not (eqb name tag.mglyph || eqb name tag.malignmark)

-- Rows 3 and 4: the adjusted current node is a MathML text integration point, and the token is such a start tag, or a character token.
unfoldable pub for_text_point : Expanded → ℕ → ℕ → Bool
for_text_point e kind name = is_in MathTextPoints e.space e.name && (is_plain_start kind name || is_characters kind)

-- Row 5: it is a MathML annotation-xml element, and the token is a start tag whose tag name is svg.
unfoldable pub for_annotation : Expanded → ℕ → ℕ → Bool
for_annotation e kind name = (eqb e.space space.mathml && eqb e.name tag.annotation_xml) && (eqb kind START_TAG && eqb name tag.svg)

-- Rows 6 and 7: it is an HTML integration point, and the token is a start tag, or a character token.
unfoldable pub for_html_point : Expanded → ℕ → Bool
for_html_point e kind = is_html_point e.space e.name e.mark && (eqb kind START_TAG || is_characters kind)

-- The rows of the list that lead to the rules of the insertion mode. Row 1, an empty stack, is no sound state. Row 2: the adjusted
-- current node is in the HTML namespace. Row 8: the token is an end-of-file token.
unfoldable pub is_html_content : Expanded → ℕ → ℕ → Bool
is_html_content e kind name =
    eqb e.space space.html
    || (for_text_point e kind name || (for_annotation e kind name || (for_html_point e kind || eqb kind END_OF_FILE)))

-- 13.2.4.2: the adjusted current node is the context element in the fragment case where only one element is open, else the current node
unfoldable pub adjusted : List ℕ → Places → Option Context → Expanded
adjusted m s x = standing m x (at s (s.size - 1)) (s.size - 1)

-- yes and no by number
abbrev pub flag_number : Bool → ℕ
flag_number true = 1
flag_number false = 0

unfoldable pub is_foreign : Full → ℕ → ℕ → Asked
is_foreign f kind name =
    cond (bad_token kind name) (refused 2)
    (told (cond (is_html_content (adjusted f.nodes.mem f.stack f.context) kind name) 0 1))

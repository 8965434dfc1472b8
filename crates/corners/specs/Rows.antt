-- The other corners, row by row, and all rows. Nodes are numbered as they are made: 1 is the document, 2 the root.
-- Assumes nothing.
use Rattle.std.specs.Prelude.{ℕ, true, false, List, [], ◌∷◌, None, Some}
use Rattle.names.specs.Space as space
use Rattle.names.specs.Tag as tag
use Rattle.standard.specs.Small.{MARKER}
use Rattle.queries.specs.Told.{told}
use Rattle.queries.specs.Reset.{BEFORE_HEAD, IN_BODY, IN_ROW}
use Rattle.corners.specs.Records.{element, words, formatting, marker, foster}
use Rattle.corners.specs.Seen.{line, Row}
use Rattle.corners.specs.Adoption.{case_adopted, case_printed, few_free, five_deep, unlisted, not_open, out_of_scope}

-- ---- the formatting list

-- a fourth equal b drops the first
unfoldable pub fourth : Row
fourth =
    record {
      context = None;
      slots = 8;
      records = element tag.body ∷ formatting tag.b ∷ formatting tag.b ∷ formatting tag.b ∷ formatting tag.b ∷ [];
      opened = 2 ∷ 3 ∷ 4 ∷ 5 ∷ 6 ∷ [];
      listed = 4 ∷ 5 ∷ 6 ∷ [];
      after =
          record {
            answer = 0;
            done = 5;
            taken = 1;
            stack = 2 ∷ 3 ∷ 4 ∷ 5 ∷ 6 ∷ 7 ∷ [];
            list = 5 ∷ 6 ∷ 7 ∷ [];
            tree =
                line 2 "| <html>" ∷
                line 3 "|   <body>" ∷
                line 4 "|     <b>" ∷
                line 5 "|       <b>" ∷
                line 6 "|         <b>" ∷
                line 7 "|           <b>" ∷ [];
            mode = told IN_BODY;
          };
      still = false;
    }

-- .. with a marker between, none
unfoldable pub marker_between : Row
marker_between =
    record {
      context = None;
      slots = 8;
      records = element tag.body ∷ formatting tag.b ∷ formatting tag.b ∷ formatting tag.b ∷ marker ∷ formatting tag.b ∷ [];
      opened = 2 ∷ 3 ∷ 4 ∷ 5 ∷ 6 ∷ [];
      listed = 4 ∷ 5 ∷ 6 ∷ MARKER ∷ [];
      after =
          record {
            answer = 0;
            done = 6;
            taken = 1;
            stack = 2 ∷ 3 ∷ 4 ∷ 5 ∷ 6 ∷ 7 ∷ [];
            list = 4 ∷ 5 ∷ 6 ∷ MARKER ∷ 7 ∷ [];
            tree =
                line 2 "| <html>" ∷
                line 3 "|   <body>" ∷
                line 4 "|     <b>" ∷
                line 5 "|       <b>" ∷
                line 6 "|         <b>" ∷
                line 7 "|           <b>" ∷ [];
            mode = told IN_BODY;
          };
      still = false;
    }

-- ---- foster parenting

-- the flag is on and the current node a tr: texts 1 and 2 make one text node before the table
unfoldable pub one_text : Row
one_text =
    record {
      context = None;
      slots = 8;
      records = element tag.body ∷ element tag.table ∷ element tag.tbody ∷ element tag.tr ∷ foster ∷ words 1 ∷ words 2 ∷ [];
      opened = 2 ∷ 3 ∷ 4 ∷ 5 ∷ 6 ∷ [];
      listed = [];
      after =
          record {
            answer = 0;
            done = 7;
            taken = 0;
            stack = 2 ∷ 3 ∷ 4 ∷ 5 ∷ 6 ∷ [];
            list = [];
            tree =
                line 2 "| <html>" ∷
                line 3 "|   <body>" ∷
                line 7 "|     #1 #2" ∷
                line 4 "|     <table>" ∷
                line 5 "|       <tbody>" ∷
                line 6 "|         <tr>" ∷ [];
            mode = told IN_ROW;
          };
      still = false;
    }

-- ---- fragments

-- a begin with an HTML context, no record, and the mode that a reset gives
abbrev pub fragment : ℕ → ℕ → Row
fragment name mode =
    record {
      context = Some (record { space = space.html; name = name; mark = 0 });
      slots = 3;
      records = [];
      opened = 2 ∷ [];
      listed = [];
      after =
          record { answer = 0; done = 0; taken = 0; stack = 2 ∷ []; list = []; tree = line 2 "| <html>" ∷ []; mode = told mode };
      still = true;
    }

-- td and head count only when not last
unfoldable pub in_td : Row
in_td = fragment tag.td IN_BODY

unfoldable pub in_head : Row
in_head = fragment tag.head IN_BODY

-- head is not seen
unfoldable pub in_html : Row
in_html = fragment tag.html BEFORE_HEAD

-- ---- all

unfoldable pub rows : List Row
rows =
    case_adopted ∷ case_printed ∷ few_free ∷ five_deep ∷ unlisted ∷ not_open ∷ out_of_scope ∷ fourth ∷ marker_between ∷ one_text ∷ in_td ∷ in_head ∷ in_html ∷ []

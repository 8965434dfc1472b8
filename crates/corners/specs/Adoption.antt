-- The corners of the adoption call, row by row. Nodes are numbered as they are made: 1 is the document, 2 the root.
-- Assumes nothing.
use Rattle.std.specs.Prelude.{true, false, [], ◌∷◌, None}
use Rattle.names.specs.Tag as tag
use Rattle.queries.specs.Told.{told}
use Rattle.queries.specs.Reset.{IN_BODY, IN_CELL}
use Rattle.corners.specs.Records.{element, words, formatting, end, pop}
use Rattle.corners.specs.Seen.{line, Row}

-- the case with the printed output, up to the adoption: with 32 free nodes it is done, and takes 1
unfoldable pub case_adopted : Row
case_adopted =
    record {
      context = None;
      slots = 39;
      records = element tag.body ∷ formatting tag.b ∷ element tag.p ∷ words 1 ∷ end tag.b ∷ [];
      opened = 2 ∷ 3 ∷ 4 ∷ 5 ∷ [];
      listed = 4 ∷ [];
      after =
          record {
            answer = 0;
            done = 5;
            taken = 1;
            stack = 2 ∷ 3 ∷ 5 ∷ [];
            list = [];
            tree =
                line 2 "| <html>" ∷
                line 3 "|   <body>" ∷
                line 4 "|     <b>" ∷
                line 5 "|     <p>" ∷
                line 7 "|       <b>" ∷
                line 6 "|         #1" ∷ [];
            mode = told IN_BODY;
          };
      still = false;
    }

-- .. and to its end: what is printed
unfoldable pub case_printed : Row
case_printed =
    record {
      context = None;
      slots = 39;
      records = element tag.body ∷ formatting tag.b ∷ element tag.p ∷ words 1 ∷ end tag.b ∷ words 2 ∷ [];
      opened = 2 ∷ 3 ∷ 5 ∷ [];
      listed = [];
      after =
          record {
            answer = 0;
            done = 6;
            taken = 1;
            stack = 2 ∷ 3 ∷ 5 ∷ [];
            list = [];
            tree =
                line 2 "| <html>" ∷
                line 3 "|   <body>" ∷
                line 4 "|     <b>" ∷
                line 5 "|     <p>" ∷
                line 7 "|       <b>" ∷
                line 6 "|         #1" ∷
                line 8 "|       #2" ∷ [];
            mode = told IN_BODY;
          };
      still = false;
    }

-- .. and with 31 free nodes: the adoption is refused, and changes nothing
unfoldable pub few_free : Row
few_free =
    record {
      context = None;
      slots = 38;
      records = element tag.body ∷ formatting tag.b ∷ element tag.p ∷ words 1 ∷ end tag.b ∷ [];
      opened = 2 ∷ 3 ∷ 4 ∷ 5 ∷ [];
      listed = 4 ∷ [];
      after =
          record {
            answer = 4;
            done = 4;
            taken = 0;
            stack = 2 ∷ 3 ∷ 4 ∷ 5 ∷ [];
            list = 4 ∷ [];
            tree =
                line 2 "| <html>" ∷
                line 3 "|   <body>" ∷
                line 4 "|     <b>" ∷
                line 5 "|       <p>" ∷
                line 6 "|         #1" ∷ [];
            mode = told IN_BODY;
          };
      still = true;
    }

-- a b i u s p open, a b i u s in the list, and a ends: 4 nodes are taken, and b is not made anew
unfoldable pub five_deep : Row
five_deep =
    record {
      context = None;
      slots = 42;
      records = element tag.body ∷ formatting tag.a ∷ formatting tag.b ∷ formatting tag.i ∷ formatting tag.u ∷ formatting tag.s ∷ element tag.p ∷ end tag.a ∷ [];
      opened = 2 ∷ 3 ∷ 4 ∷ 5 ∷ 6 ∷ 7 ∷ 8 ∷ 9 ∷ [];
      listed = 4 ∷ 5 ∷ 6 ∷ 7 ∷ 8 ∷ [];
      after =
          record {
            answer = 0;
            done = 8;
            taken = 4;
            stack = 2 ∷ 3 ∷ 12 ∷ 11 ∷ 10 ∷ 9 ∷ [];
            list = 12 ∷ 11 ∷ 10 ∷ [];
            tree =
                line 2 "| <html>" ∷
                line 3 "|   <body>" ∷
                line 4 "|     <a>" ∷
                line 5 "|       <b>" ∷
                line 6 "|         <i>" ∷
                line 7 "|           <u>" ∷
                line 8 "|             <s>" ∷
                line 12 "|     <i>" ∷
                line 11 "|       <u>" ∷
                line 10 "|         <s>" ∷
                line 9 "|           <p>" ∷
                line 13 "|             <a>" ∷ [];
            mode = told IN_BODY;
          };
      still = false;
    }

-- the current b is not in the list, and b ends: it is popped, and the list is kept
unfoldable pub unlisted : Row
unlisted =
    record {
      context = None;
      slots = 38;
      records = element tag.body ∷ formatting tag.i ∷ element tag.b ∷ end tag.b ∷ [];
      opened = 2 ∷ 3 ∷ 4 ∷ 5 ∷ [];
      listed = 4 ∷ [];
      after =
          record {
            answer = 0;
            done = 4;
            taken = 0;
            stack = 2 ∷ 3 ∷ 4 ∷ [];
            list = 4 ∷ [];
            tree =
                line 2 "| <html>" ∷
                line 3 "|   <body>" ∷
                line 4 "|     <i>" ∷
                line 5 "|       <b>" ∷ [];
            mode = told IN_BODY;
          };
      still = false;
    }

-- an entry b is not open, the current node is no b, and b ends: the entry goes, and the stack is kept
unfoldable pub not_open : Row
not_open =
    record {
      context = None;
      slots = 38;
      records = element tag.body ∷ formatting tag.i ∷ formatting tag.b ∷ pop ∷ end tag.b ∷ [];
      opened = 2 ∷ 3 ∷ 4 ∷ [];
      listed = 4 ∷ 5 ∷ [];
      after =
          record {
            answer = 0;
            done = 5;
            taken = 0;
            stack = 2 ∷ 3 ∷ 4 ∷ [];
            list = 4 ∷ [];
            tree =
                line 2 "| <html>" ∷
                line 3 "|   <body>" ∷
                line 4 "|     <i>" ∷
                line 5 "|       <b>" ∷ [];
            mode = told IN_BODY;
          };
      still = false;
    }

-- a b whose scope ends at the td, and b ends: nothing changes
unfoldable pub out_of_scope : Row
out_of_scope =
    record {
      context = None;
      slots = 41;
      records = element tag.body ∷ formatting tag.b ∷ element tag.table ∷ element tag.tbody ∷ element tag.tr ∷ element tag.td ∷ end tag.b ∷ [];
      opened = 2 ∷ 3 ∷ 4 ∷ 5 ∷ 6 ∷ 7 ∷ 8 ∷ [];
      listed = 4 ∷ [];
      after =
          record {
            answer = 0;
            done = 7;
            taken = 0;
            stack = 2 ∷ 3 ∷ 4 ∷ 5 ∷ 6 ∷ 7 ∷ 8 ∷ [];
            list = 4 ∷ [];
            tree =
                line 2 "| <html>" ∷
                line 3 "|   <body>" ∷
                line 4 "|     <b>" ∷
                line 5 "|       <table>" ∷
                line 6 "|         <tbody>" ∷
                line 7 "|           <tr>" ∷
                line 8 "|             <td>" ∷ [];
            mode = told IN_CELL;
          };
      still = true;
    }

-- 13.4, parsing HTML fragments, the step that sets the state of the tokenization stage by the context element.
-- Assumes nothing.
use Rattle.std.specs.Prelude.{ℕ, cond, ◌||◌, eqb, ltb, None, Option, Some}
use Rattle.names.specs.Space as space
use Rattle.names.specs.Tag as tag
use Rattle.state.specs.declared.Context.{Context}
use Rattle.state.specs.Full.{Full}
use Rattle.queries.specs.declared.tokenizer.TokenizerState.{TokenizerState}
use Rattle.queries.specs.declared.tokenizer.TokenizerState.TheVariants.{Data, Rcdata, Rawtext, ScriptData, Plaintext}
use Rattle.queries.specs.Told.{Asked, told, refused}

-- an HTML element with a name; scripting is 1 where the scripting flag is on
unfoldable pub state_for : ℕ → ℕ → TokenizerState
state_for scripting name =
    cond (eqb name tag.title || eqb name tag.textarea) Rcdata
    (cond (eqb name tag.style || (eqb name tag.xmp || (eqb name tag.iframe || (eqb name tag.noembed || eqb name tag.noframes)))) Rawtext
    (cond (eqb name tag.script) ScriptData
    (cond (eqb name tag.noscript) (cond (eqb scripting 1) Rawtext Data)
    (cond (eqb name tag.plaintext) Plaintext
    Data))))

-- "Otherwise", and for an element of another namespace: the data state
unfoldable pub state_in : ℕ → ℕ → ℕ → TokenizerState
state_in scripting ns name = cond (eqb ns space.html) (state_for scripting name) Data

-- the states by number
abbrev pub state_number : TokenizerState → ℕ
state_number Data = 0
state_number Rcdata = 1
state_number Rawtext = 2
state_number ScriptData = 3
state_number Plaintext = 4

unfoldable pub given : TokenizerState → Asked
given t = told (state_number t)

-- answer 3: there is no context
unfoldable pub for_context : ℕ → Option Context → Asked
for_context scripting None = refused 3
for_context scripting (Some x) = given (state_in scripting x.space x.name)

-- answer 2: an unknown flag
unfoldable pub tokenizer_state : Full → ℕ → Asked
tokenizer_state f scripting = cond (ltb 1 scripting) (refused 2) (for_context scripting f.context)

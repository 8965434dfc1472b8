use Rattle.std.proofs.Common.{◌∙◌}
use Rattle.names.specs.Sets.{the_formatting, the_special, the_default_scope, the_list_item_scope, the_button_scope, the_table_scope, the_cursory, the_thorough, the_foster_targets, the_math_text_points, the_svg_points}
use Rattle.names.proofs.InWords.{right}
use Rattle.names.proofs.sets.Set.has.Goals as goal

pub returns-in-Formatting : goal.returns-in-Formatting
returns-in-Formatting c = rw c.in-Formatting.is (c.in_words.ensures ∙ right the_formatting c.args.space c.args.name)

pub returns-in-Special : goal.returns-in-Special
returns-in-Special c = rw c.in-Special.is (c.in_words-in-Special.ensures ∙ right the_special c.args.space c.args.name)

pub returns-in-DefaultScope : goal.returns-in-DefaultScope
returns-in-DefaultScope c = rw c.in-DefaultScope.is (c.in_words-in-DefaultScope.ensures ∙ right the_default_scope c.args.space c.args.name)

pub returns-in-ListItemScope : goal.returns-in-ListItemScope
returns-in-ListItemScope c = rw c.in-ListItemScope.is (c.in_words-in-ListItemScope.ensures ∙ right the_list_item_scope c.args.space c.args.name)

pub returns-in-ButtonScope : goal.returns-in-ButtonScope
returns-in-ButtonScope c = rw c.in-ButtonScope.is (c.in_words-in-ButtonScope.ensures ∙ right the_button_scope c.args.space c.args.name)

pub returns-in-TableScope : goal.returns-in-TableScope
returns-in-TableScope c = rw c.in-TableScope.is (c.in_words-in-TableScope.ensures ∙ right the_table_scope c.args.space c.args.name)

pub returns-in-Cursory : goal.returns-in-Cursory
returns-in-Cursory c = rw c.in-Cursory.is (c.in_words-in-Cursory.ensures ∙ right the_cursory c.args.space c.args.name)

pub returns-in-Thorough : goal.returns-in-Thorough
returns-in-Thorough c = rw c.in-Thorough.is (c.in_words-in-Thorough.ensures ∙ right the_thorough c.args.space c.args.name)

pub returns-in-FosterTargets : goal.returns-in-FosterTargets
returns-in-FosterTargets c = rw c.in-FosterTargets.is (c.in_words-in-FosterTargets.ensures ∙ right the_foster_targets c.args.space c.args.name)

pub returns-in-MathTextPoints : goal.returns-in-MathTextPoints
returns-in-MathTextPoints c = rw c.in-MathTextPoints.is (c.in_words-in-MathTextPoints.ensures ∙ right the_math_text_points c.args.space c.args.name)

pub returns-in-SvgPoints : goal.returns-in-SvgPoints
returns-in-SvgPoints c = rw c.in-SvgPoints.is (c.in_words-in-SvgPoints.ensures ∙ right the_svg_points c.args.space c.args.name)

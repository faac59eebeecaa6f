use mathlib.Core.Path.{ap, ◌∙◌}
use Rattle.definitions.specs.Wire.{word_sections, records_narrow}
use Rattle.wire.proofs.Sections.{groups_are}
use Rattle.wire.proofs.records_below.Goals as goal

pub returns : goal.returns
returns c =
    c.records_narrow.ensures ∙ ap records_narrow (groups_are (word_sections c.args.words.now) c.section.ensures)

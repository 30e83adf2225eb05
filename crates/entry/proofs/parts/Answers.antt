-- By the kind of the record.
use Rattle.entry.proofs.Laws.{known_parts}
use Rattle.entry.proofs.parts.Goals as goal

pub returns-in-Issue : goal.returns-in-Issue
returns-in-Issue c = search known_parts

pub returns-in-Rp : goal.returns-in-Rp
returns-in-Rp c = search known_parts

pub returns-in-Usage : goal.returns-in-Usage
returns-in-Usage c = search known_parts

pub returns-in-Supplement : goal.returns-in-Supplement
returns-in-Supplement c = search known_parts

pub returns-in-Drug : goal.returns-in-Drug
returns-in-Drug c = search known_parts

pub returns-in-Kept : goal.returns-in-Kept
returns-in-Kept c = search known_parts

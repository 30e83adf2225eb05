-- What a draft is after a call.
-- Assumes nothing.
use Rattle.std.specs.Prelude.{ℕ, List}
use denote.Ref.{MutBor, at_last}
use Rattle.writer.specs.Writer.{Left}
use Rattle.draft.specs.declared.Draft.{Draft}

-- The same lent buffer with the bytes that the call leaves, and what it told.
abbrev pub left : MutBor (List ℕ) → Left → Draft
left out l = record { out = at_last out l.buffer; told = l.put }

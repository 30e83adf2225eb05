-- What stands after the front is cleared; then by the record.
use native.Mathlib.Omega.{arith}
use Rattle.record.specs.declared.Record.TheVariants.{Issue, Rp, Usage, Supplement as Supply, Drug, Kept}
use Rattle.plain_record.specs.Records.{numbers_of}
use Rattle.plain_record.proofs.Front.{put_front, most_usage, most_supplement}
use borrow.Author.Rules.{rules}
use Rattle.plain_record.proofs.put_record.Goals as goal

pub returns-in-Issue : goal.returns-in-Issue
returns-in-Issue c =
    let n = c.args.n.now in
    rw c.in-Issue.is (put_front n (search rules) (numbers_of (Issue c.in-Issue.x)) c.put_51.ensures c.clear.ensures (omega arith))

pub returns-in-Rp : goal.returns-in-Rp
returns-in-Rp c =
    let n = c.args.n.now in
    rw c.in-Rp.is (put_front n (search rules) (numbers_of (Rp c.in-Rp.x)) c.put_101.ensures c.clear.ensures (omega arith))

pub returns-in-Usage : goal.returns-in-Usage
returns-in-Usage c =
    let n = c.args.n.now in
    rw c.in-Usage.is (put_front n (search rules) (numbers_of (Usage c.in-Usage.x)) c.put_111.ensures c.clear.ensures (most_usage c.in-Usage.x))

pub returns-in-Supplement : goal.returns-in-Supplement
returns-in-Supplement c =
    let n = c.args.n.now in
    rw c.in-Supplement.is (put_front n (search rules) (numbers_of (Supply c.in-Supplement.x)) c.put_181.ensures c.clear.ensures (most_supplement c.in-Supplement.x))

pub returns-in-Drug : goal.returns-in-Drug
returns-in-Drug c =
    let n = c.args.n.now in
    rw c.in-Drug.is (put_front n (search rules) (numbers_of (Drug c.in-Drug.x)) c.put_201.ensures c.clear.ensures (omega arith))

pub returns-in-Kept : goal.returns-in-Kept
returns-in-Kept c =
    let n = c.args.n.now in
    rw c.in-Kept.is (put_front n (search rules) (numbers_of (Kept c.in-Kept.x)) c.put_kept.ensures c.clear.ensures (omega arith))

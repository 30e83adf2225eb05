-- What the code keeps of the records is what they say.
-- Assumes nothing.
use Prim.Native.Nat.{ℕ}
use mathlib.Core.Path.{◌≡◌, refl, ◌∙◌, ap}
use mathlib.Core.Bool.{Bool, false}
use mathlib.Core.List.{List, [], ◌∷◌, ◌++◌}
use lib.ListN.{replicate}
use Rattle.cells.proofs.Split.{split}
use Rattle.supplement.specs.declared.Supplement.{Supplement}
use Rattle.record.specs.Record.{with_supplement}
use Rattle.record.specs.declared.Record.{Record}
use Rattle.record.specs.declared.Record.TheVariants.{Issue, Rp, Usage, Supplement as Supply, Drug, Kept}
use Rattle.course.specs.Plan.{Found, times_fixed, times_of}
use Rattle.course.specs.Kept.{rule_of, rule_in, Marks, Keeps}
use Rattle.course.specs.declared.Course.{Course}
use Rattle.course.specs.declared.Rule.{Rule}
use Rattle.course.proofs.Kept.{by_letter}
use Rattle.dose_calendar.specs.Found.{nothing, owns, with_record}
use Rattle.dose_calendar.specs.Code.Gather.{joined, no_course, joined_by, course_with, marked_by, marks_with}
use Rattle.dose_calendar.proofs.Marks.{marks_none, marks_more}
use Rattle.std.specs.Prelude.{None, Option, Some}

-- Before the first record,
pub keeps_none : (marks : List Bool) → marks ≡ replicate 416 false → Keeps no_course marks nothing
unfolding times_fixed times_of
keeps_none marks e = record { issue = refl; begins = refl; fixed = refl; times = refl; rule = refl; marked = rw e marks_none }

-- the rule of the first supplement stays
first_stays : (y x : Supplement) → joined (rule_of y) x ≡ rule_of y
unfolding rule_of
first_stays y x = by_letter y (λ a. rw a) (λ a b. rw (a, b)) (λ a b c. rw (a, b, c)) (λ a b c. rw (a, b, c))

joined_more : (xs : List Supplement) (x : Supplement) → joined (rule_in xs) x ≡ rule_in (xs ++ (x ∷ []))
joined_more [] x = refl
joined_more (y ∷ ys) x = first_stays y x

-- what an RP's supplements say with one more, or with none
rule_by : (rule : Rule) (xs : List Supplement) (code : Option Supplement) → rule ≡ rule_in xs → joined_by rule code ≡ rule_in (with_supplement xs code)
rule_by rule xs (Some x) e = ap (λ (r : Rule). joined r x) e ∙ joined_more xs x
rule_by rule xs None e = e

marks_by : (marks : List Bool) (xs : List Supplement) (code : Option Supplement) → Marks marks xs → Marks (marked_by marks code) (with_supplement xs code)
marks_by marks xs (Some x) w = marks_more marks xs x w
marks_by marks xs None w = w

-- and with each record more.
pub keeps_more : (rp : ℕ) (c : Course) (marks : List Bool) (w : Found) (r : Record) → Keeps c marks w →
    Keeps (course_with rp c r) (marks_with rp marks r) (with_record rp w r)
keeps_more rp c marks w (Issue x) k =
    record { issue = refl; begins = k.begins; fixed = k.fixed; times = k.times; rule = k.rule; marked = k.marked }
keeps_more rp c marks w (Rp x) k =
    split (owns rp x.rp)
    (λ e. rw e (record { issue = k.issue; begins = refl; fixed = k.fixed; times = k.times; rule = k.rule; marked = k.marked }))
    (λ e. rw e k)
keeps_more rp c marks w (Usage x) k =
    split (owns rp x.rp)
    (λ e. rw e (record { issue = k.issue; begins = k.begins; fixed = refl; times = refl; rule = k.rule; marked = k.marked }))
    (λ e. rw e k)
keeps_more rp c marks w (Supply x) k =
    split (owns rp x.rp)
    (λ e. rw e
    (record {
      issue = k.issue;
      begins = k.begins;
      fixed = k.fixed;
      times = k.times;
      rule = rule_by c.rule w.plan.supplements x.code k.rule;
      marked = marks_by marks w.plan.supplements x.code k.marked;
    }))
    (λ e. rw e k)
keeps_more rp c marks w (Drug x) k = k
keeps_more rp c marks w (Kept x) k = k

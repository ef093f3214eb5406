-- `campaign_way::coming::coming`: at step 0 the carriage to the leg's first pattern, later the way of the move beside the last mark's pattern.
use mathlib.Core.Path.{◌≡◌, subst}
use Prim.Native.Nat.{◌-◌, ◌<◌}
use lib.ListN.{take, replicate}
use lib.Seq.{length-take-le}
use borrow.Author.Rules.{rules}
use Rattle.listing.specs.Count.{count}
use Rattle.listing.specs.Listing.{at}
use Rattle.listing.specs.Limits.{most_ports}
use Rattle.listing.specs.Neighbours.{move_beside}
use Rattle.words.specs.Meaning.{move_of}
use Rattle.plan_rules.specs.Rules.{leg_is}
use Rattle.listing_course.specs.Course.{CourseOf}
use Rattle.pattern_course.proofs.Lent.{front-asked, front-put}
use Rattle.campaign_way.proofs.Walks.{walk-listed}
use Rattle.campaign_way.proofs.Orders.{beside-form, course-move, later-way}
use Rattle.campaign_way.proofs.coming.coming.Goals as goal
use Rattle.campaign_way.proofs.coming.coming.Goals.{After-move_along, After-put_with_course-levels, After-rank_along-r}

-- the rank of the last mark is listed
listed : (c : After-rank_along-r) → c.rank_along-r.result < count c.args.n
listed c =
    rw c.rank_along-r.ensures (walk-listed c.args.n c.requires.0 c.args.l.start c.args.l.back (c.args.k - 1) c.requires.2)

-- the course is that of the rank's pattern for n ports
course : (c : After-put_with_course-levels) → CourseOf c.put_with_course-levels.result c.args.n (at c.args.n c.rank_along-r.result)
course c =
    subst (λ k. CourseOf c.put_with_course-levels.result k (at k c.rank_along-r.result))
    (length-take-le c.args.n (replicate most_ports 0) (search rules)) c.put_with_course-levels.ensures.course

-- the move that was found is the one beside the rank
move-is : (c : After-move_along) → move_of c.move_along.result ≡ move_beside c.args.n c.args.l.back c.rank_along-r.result
move-is c =
    course-move c.args.n c.rank_along-r.result _ c.args.l.back _ c.requires.0 (listed c.before.before.before.before.before) (course c.before.before.before) c.move_along.ensures

pub put_with_course-levels-requires : goal.put_with_course-levels-requires
put_with_course-levels-requires c =
    front-asked c.args.n c.rank_along-r.result _ (search rules) c.requires.1 (listed (goal.at.put_with_course-levels-requires c).After-rank_along-r)

pub on_the_way-requires : goal.on_the_way-requires
on_the_way-requires c =
    (c.requires.1, rw (move-is c) (beside-form c.args.n c.requires.0 c.args.l.back _ (listed (goal.at.on_the_way-requires c).After-rank_along-r)))

pub returns : goal.returns
returns c =
    let pattern = front-put c.args.n c.rank_along-r.result _ _ (search rules) (listed (goal.at.returns c).After-rank_along-r) c.put_with_course-levels.ensures.pattern in
    later-way c.args.n (leg_is c.args.l) c.args.k (take c.args.n c.args.q) _ _ _ _ c.if-k-eq0.false c.rank_along-r.ensures pattern (move-is (goal.at.returns c).After-move_along)
    c.on_the_way.ensures

use Rattle.std.proofs.Common.{◌≡◌, cond, [], ◌∷◌, sym, ap, ◌∙◌, subst, ap₂, lit≤}
use Rattle.ranking.specs.Counts.{held}
use Rattle.ranking.specs.Masks.{Told}
use Rattle.ranking.specs.Descriptions.{ranks_of, class_of}
use Rattle.ranking.specs.Groups.{groups_of}
use Rattle.ranking.specs.Values.{BestDescribed, WellRead, read_ranks, value_of}
use Rattle.ranking.proofs.BestClass.{class_is_best, joined_is_class, same_joined}
use Rattle.ranking.proofs.Reading.{reads_well}
use Rattle.ranking.proofs.five.value_of_five.Goals as goal

pub returns : goal.returns
unfolding value_of
returns c =
    let h = c.args.hand.now in
    let rs = ranks_of h in
    let start = c.straight_start-start.result in
    let ranks_are : c.of-ranks.result.numbers ≡ rs = c.of-ranks.ensures in
    let told : Told (held rs) start = subst (λ l. Told (held l) start) ranks_are c.straight_start-start.ensures in
    let groups_are : c.groups-groups.result ≡ groups_of rs = c.groups-groups.ensures ∙ ap groups_of ranks_are in
    let class_is : c.class_from-class.result ≡ class_of h
    = c.class_from-class.ensures
    ∙ same_joined c.suited.ensures (sym told.there) (sym (told.runs 10 (lit≤ tt) (lit≤ tt))) (ap (λ g. g.class) groups_are)
    ∙ joined_is_class h in
    let ranks_read : c.read_from-ranks.result ≡ read_ranks h
    = c.read_from-ranks.ensures ∙ ap₂ (λ low l. cond low (5 ∷ 4 ∷ 3 ∷ 2 ∷ 1 ∷ []) l) (sym (told.runs 1 (lit≤ tt) (lit≤ tt))) (ap (λ g. g.ranks) groups_are) in
    record {
      value = λ i. record { class = class_is i; ranks = ranks_read i };
      best_class = subst (BestDescribed h) (sym class_is) (class_is_best h);
      well_read = subst (WellRead h) (sym ranks_read) (reads_well h);
    }

use Rattle.std.proofs.Common.{◌≡◌, rules, arith, if◌then◌else◌}
use Rattle.std.specs.List.{enumerate_from, reduce}
use Rattle.std.specs.Option.{option_map}
use Rattle.std.proofs.lemmas.Iterator.{YieldsList-from_slice}
use Rattle.std.proofs.lemmas.Iterator.Consumers.{YieldsList-from_enumerate}
use Rattle.search.specs.Highest.{highest_place}
use Rattle.search.proofs.Leads.{ranks_from_laws, leads_on, all_come, highest_place_keeps}
use Rattle.search.proofs.Reduced.{reduced}
use Rattle.search.proofs.highest.Goals as goal

pub returns : goal.returns
returns g c =
    let below = g.T.Ranked.below in
    let o = ranks_from_laws below g.met.T.Ranked.asymmetric g.met.T.Ranked.chain in
    let xs = c.args.items.now in
    let read : option_map (λ p. (p.0, p.1.now)) c.reduce.result ≡ reduce (leads_on below) (enumerate_from 0 xs)
    = reduced (λ p q. if below p.1.now q.1.now then q else p) _ _ c.reduce.ensures.ran
    (YieldsList-from_enumerate (YieldsList-from_slice xs cc) c.enumerate.ensures.count) (λ x y z q k. search rules) (λ x y. search rules) in
    let place : c.map.result ≡ highest_place below xs
    = grind (arith, all_come below o xs, read) in
    record { place = place; none_exceeds = rw place (highest_place_keeps below o xs) }

use Rattle.stripe_repair.proofs.placer.Placer.place.Goals as goal

pub returns : goal.returns
returns g c = let h = rw (← c.self.view_is) at c.requires.rule in
    h.places c.args.count c.args.loads _ c.requires.asked c.call.ensures

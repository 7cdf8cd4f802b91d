use Rattle.picture_html.proofs.Linking.{linked}
use Rattle.picture_html.proofs.time.say_link.Goals as goal

pub returns : goal.returns
returns c =
    linked c.say_extent.result c.args.out.now.items c.extend_from_slice.new.self.items c.say_extent.new.out.items c.args.bars.now (record { first = 0; last = 0 })
    c.if-bars-lt2.false c.in_ok-extend_from_slice.ensures.items c.say_extent.ensures

use Rattle.picture_html.proofs.style.say_style.Goals as goal

pub returns : goal.returns
returns c = c.in_ok-extend_from_slice.ensures.items

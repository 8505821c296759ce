use Rattle.map_text.proofs.Maps.{map_reads}
use Rattle.map_text.proofs.maps_are_their_texts.Goals as goal

pub returns : goal.returns
returns c = (λ s t m e. map_reads.sound s m t e, λ m r n g. map_reads.complete m r n g)

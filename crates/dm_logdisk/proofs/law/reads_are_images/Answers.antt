use Rattle.dm_logdisk.proofs.Images.{read_is_image}
use Rattle.dm_logdisk.proofs.law.reads_are_images.Goals as goal

pub returns : goal.returns
returns c = record {
  read = read_is_image;
  opening = λ bytes image same. same;
  durable = λ s image same. same;
  as_before = λ s bytes image. image;
}

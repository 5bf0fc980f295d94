pub mod SackBytes

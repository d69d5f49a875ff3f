pub mod NoArrivals
